use Rattle.std.proofs.Common.{◌+◌, sym, subst, List}
use Rattle.std.specs.List.Sorted.{IsNonDecreasingBy}
use Rattle.file_table.specs.declared.condemned.Condemned.{Condemned}
use Rattle.file_table.specs.Files.{numbers_of}
use Rattle.file_table.proofs.CountLemmas.{changed_none, changed_at, once_rising}
use Rattle.file_table.proofs.TableLemmas.{rising}
use Rattle.file_table.proofs.count.raise_condemned.Goals as goal

pub place_of-requires : goal.place_of-requires
place_of-requires c = subst (λ (l : List Condemned). IsNonDecreasingBy (λ f. f.no) l) (sym c.deref.ensures.value) (rising (λ (f : Condemned). f.no) c.args.files.now.items c.requires.once)

pub returns-in-Some-clause-items : goal.returns-in-Some-clause-items
returns-in-Some-clause-items c =
    changed_at (λ (file : Condemned). file.no) (λ (file : Condemned). record file { holds = file.holds + 1 }) c.args.no c.args.files.now.items c.deref.result.now c.in-Some.k c.index_mut.result.now c.deref.ensures.value (once_rising (numbers_of c.args.files.now.items) c.requires.once) c.in-Some.ensures.within c.index_mut.ensures.value c.in-Some.ensures.found

pub returns-in_default-clause-items : goal.returns-in_default-clause-items
returns-in_default-clause-items c =
    changed_none (λ (file : Condemned). file.no) (λ (file : Condemned). record file { holds = file.holds + 1 }) c.args.no c.args.files.now.items c.deref.result.now c.deref.ensures.value c.in_default.ensures.none
