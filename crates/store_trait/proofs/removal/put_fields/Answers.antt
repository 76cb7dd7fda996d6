-- The measurement has samples, which give place, or none.
use Rattle.std.proofs.Common.{◌≡◌, ◌∙◌, ap, cond, Bool, true, false, Option, is_some, sym, refl, rules, ◌&&◌}
use Rattle.std.specs.BTreeMap.{get, is_at}
use Rattle.std.proofs.lemmas.Map.Lookups.{exact_bytes}
use Rattle.tsdb_types.specs.declared.point.Cell.{Cell}
use Rattle.store_trait.specs.Slots.{Samples, sample_of, text_cmp}
use Rattle.store_trait.proofs.MapLemmas.{level_set}
use Rattle.store_trait.proofs.removal.put_fields.Goals as goal

pub returns-in-Some : goal.returns-in-Some
returns-in-Some c = λ m f.
    level_set exact_bytes c.args.samples.now (c.get_mut.follows.lender c.replace.new.place) c.args.heading.now c.replace.new.place
    ((c.get_mut.follows.holds c.replace.new.place).3 (search rules)).0
    c.in-Some.place.now (sym c.in-Some.ensures.value) (λ fields. get text_cmp fields f) true (get text_cmp c.args.fields f)
    (ap (λ fields. get text_cmp fields f) c.replace.ensures) m
    ∙ ap (λ (b : Bool). cond (is_at (text_cmp c.args.heading.now) m && b) (get text_cmp c.args.fields f) (sample_of c.args.samples.now m f)) (ap is_some c.in-Some.ensures.value)

never : (a b : Bool) (x y : Option Cell) → b ≡ false → y ≡ cond (a && b) x y
never true b x y e = ap (λ (c : Bool). cond c x y) (sym e)
never false b x y e = refl

pub returns-in-None : goal.returns-in-None
returns-in-None c = λ m f.
    let old = c.args.samples.now in
    ap (λ (s : Samples). sample_of s m f) c.get_mut.follows.holds-at-none
    ∙ never (is_at (text_cmp c.args.heading.now) m) (is_some (get text_cmp old c.args.heading.now)) (get text_cmp c.args.fields f) (sample_of old m f) (ap is_some (sym c.in-None.ensures.value))
