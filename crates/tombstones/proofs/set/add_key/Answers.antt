use Rattle.std.proofs.Common.{◌≡◌, ◌≢◌, ℕ, ◌<◌, ◌^◌, List, [], ◌∷◌, length, sym, ap, ◌∙◌, subst, Vec, Global}
use Rattle.std.specs.List.{AllByRecursion}
use Rattle.std.specs.BTreeMap.{insert_entry}
use Rattle.std.specs.Ordering.{nat_cmp}
use Rattle.std.specs.Cmp.Lexicographic.{slice_cmp}
use Rattle.tombstones.specs.declared.range.TombRange.{TombRange}
use Rattle.tombstones.specs.Covered.{HidesAlso}
use Rattle.tombstones.specs.Kept.{Row, tombs_of, IsRow}
use Rattle.tombstones.proofs.KeptLemmas.{insert_hides, insert_rows}
use Rattle.tombstones.proofs.set.add_key.Goals as goal

pub returns-clause-ok : goal.returns-clause-ok
returns-clause-ok c =
    let rows = c.args.rows.now.entries in
    let key = c.in_ok-key.key in
    let entries : c.insert.new.self.entries ≡ insert_entry (λ (x y : Vec ℕ Global). slice_cmp nat_cmp x.items y.items) rows key (c.args.range ∷ []) =
    c.in_ok-insert.ensures.entries ∙ ap (λ (rs : List TombRange). insert_entry (λ (x y : Vec ℕ Global). slice_cmp nat_cmp x.items y.items) rows key rs) c.in_ok-ranges.ensures in
    subst (λ (rs : List Row). HidesAlso (tombs_of rows) c.args.key.now c.args.range (tombs_of rs)) (sym entries)
    (insert_hides c.args.key.now key rows c.args.range c.in_ok-key.ensures.items c.requires.absent)

pub returns-clause-rows : goal.returns-clause-rows
returns-clause-rows c =
    let rows = c.args.rows.now.entries in
    let key = c.in_ok-key.key in
    let short : length key.items < 2 ^ 32 = subst (λ (x : List ℕ). length x < 2 ^ 32) (sym c.in_ok-key.ensures.items) c.requires.short in
    let some : c.in_ok-ranges.ranges ≢ [] = λ none. let e : c.args.range ∷ [] ≡ [] = sym c.in_ok-ranges.ensures ∙ none in cc in
    record {
      ascending = c.in_ok-insert.ensures.ordered;
      each = subst (AllByRecursion IsRow) (sym c.in_ok-insert.ensures.entries) (insert_rows key rows c.in_ok-ranges.ranges short some c.requires.rows.each);
    }
