use Rattle.std.proofs.Common.{◌≡◌, ◌==◌, false, ◌∷◌, ◌<◌, List, length, sym, subst}
use Rattle.std.specs.List.{All, HoldsAt}
use Rattle.std.specs.List.Sorted.{IsPermutation, IsNonDecreasingBy}
use Rattle.std.proofs.lemmas.List.Sorted.{IsPermutation-remove}
use Rattle.file_table.specs.declared.condemned.Condemned.{Condemned}
use Rattle.file_table.specs.Files.{unused}
use Rattle.file_table.proofs.TableLemmas.{rising}
use Rattle.file_table.proofs.FoundLemmas.{found_free, free_is_found}
use Rattle.file_table.proofs.order.take_out.Goals as goal

pub place_of-requires : goal.place_of-requires
place_of-requires c = subst (λ (l : List Condemned). IsNonDecreasingBy (λ f. f.no) l) (sym c.deref.ensures.value) (rising (λ (f : Condemned). f.no) c.args.files.now.items c.requires.ordered)

pub returns-in-Some-clause-removed : goal.returns-in-Some-clause-removed
returns-in-Some-clause-removed c = (c.in-Some.k, subst (λ (l : List Condemned). c.in-Some.k < length l) c.deref.ensures.value c.in-Some.ensures.within, c.remove.ensures.items)

pub returns-in-Some-clause-left : goal.returns-in-Some-clause-left
returns-in-Some-clause-left c =
    let files = c.args.files.now.items in
    let within = subst (λ (l : List Condemned). c.in-Some.k < length l) c.deref.ensures.value c.in-Some.ensures.within in
    let found = subst (λ (l : List Condemned). HoldsAt (λ f. f.no ≡ c.args.no) l c.in-Some.k) c.deref.ensures.value c.in-Some.ensures.found in
    let is = found_free files c.args.no c.in-Some.k (unused c.args.no) c.requires.ordered c.requires.free within (found (unused c.args.no)) in
    subst (λ (l : List Condemned). IsPermutation files (unused c.args.no ∷ l)) (sym c.remove.ensures.items) (IsPermutation-remove files c.in-Some.k (unused c.args.no) within is)

pub returns-in_default-clause-removed : goal.returns-in_default-clause-removed
returns-in_default-clause-removed c = absurd (free_is_found c.args.files.now.items c.args.no c.requires.free (subst (λ (l : List Condemned). All (λ f. (f.no == c.args.no) ≡ false) l) c.deref.ensures.value c.in_default.ensures.none))

pub returns-in_default-clause-left : goal.returns-in_default-clause-left
returns-in_default-clause-left c = absurd (free_is_found c.args.files.now.items c.args.no c.requires.free (subst (λ (l : List Condemned). All (λ f. (f.no == c.args.no) ≡ false) l) c.deref.ensures.value c.in_default.ensures.none))

pub returns-in_default-clause-len : goal.returns-in_default-clause-len
returns-in_default-clause-len c = absurd (free_is_found c.args.files.now.items c.args.no c.requires.free (subst (λ (l : List Condemned). All (λ f. (f.no == c.args.no) ≡ false) l) c.deref.ensures.value c.in_default.ensures.none))
