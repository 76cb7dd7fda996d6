-- What a history makes of one cell, and what layers show there.
use Rattle.std.proofs.Common.{◌≡◌, Bool, true, false, cond, not, List, [], ◌∷◌, ◌++◌, map, ◌∙◌, ap, sym, refl, Option, Some, None}
use Rattle.std.specs.Option.{option_or}
use Rattle.tsdb_types.specs.declared.point.Cell.{Cell}
use Rattle.tsdb_types.specs.declared.point.Point.{Point}
use Rattle.tsdb_types.specs.declared.value.Value.{Value}
use Rattle.point_model.specs.declared.deletion.Deletion.{Deletion}
use Rattle.point_model.specs.declared.entry.Entry.{Entry}
use Rattle.point_model.specs.declared.entry.Entry.TheVariants.{Write, Delete}
use Rattle.point_model.specs.Contents.{Content, overlay, spared}
use Rattle.point_model.specs.Deletions.{is_deleted, without}
use Rattle.point_model.specs.Effects.{Effect, applied, effect, effects, set_by, written}
use Rattle.point_model.specs.Histories.{after, after_entry, with_points}
use Rattle.point_model.specs.Points.{Points, is_same_cell, value_at, with_point}
use Rattle.point_model.proofs.PointLemmas.{value_at-with_point, value_at-without}

pub or_assoc : {A : Type 0} (a b c : Option A) → option_or a (option_or b c) ≡ option_or (option_or a b) c
or_assoc None b c = refl
or_assoc (Some x) b c = refl

pub or_none : {A : Type 0} (a : Option A) → option_or a None ≡ a
or_none None = refl
or_none (Some x) = refl

pub overlay-append : (older newer : List Content) (cell : Cell) → overlay (older ++ newer) cell ≡ option_or (overlay newer cell) (overlay older cell)
overlay-append [] newer cell = sym (or_none (overlay newer cell))
overlay-append (content ∷ older) newer cell =
    ap (λ (o : Option Value). option_or o (content cell)) (overlay-append older newer cell)
    ∙ sym (or_assoc (overlay newer cell) (overlay older cell) (content cell))

pub overlay_replaced : (before group made behind : List Content) (cell : Cell) → overlay group cell ≡ overlay made cell
    → overlay (before ++ group ++ behind) cell ≡ overlay (before ++ made ++ behind) cell
overlay_replaced before group made behind cell same =
    overlay-append (before ++ group) behind cell
    ∙ ap (λ (o : Option Value). option_or (overlay behind cell) o)
    (overlay-append before group cell ∙ ap (λ (o : Option Value). option_or o (overlay before cell)) same ∙ sym (overlay-append before made cell))
    ∙ sym (overlay-append (before ++ made) behind cell)

pub spared_or : (deleted : Bool) (a b : Option Value) → option_or (cond deleted None a) (cond deleted None b) ≡ cond deleted None (option_or a b)
spared_or true a b = refl
spared_or false a b = refl

pub none_either_way : (deleted : Bool) → (let none : Option Value = None in none ≡ cond deleted None None)
none_either_way true = refl
none_either_way false = refl

pub overlay_spared : (deletion : Deletion) (layers : List Content) (cell : Cell) → overlay (map (spared deletion) layers) cell ≡ spared deletion (overlay layers) cell
overlay_spared deletion [] cell = none_either_way (is_deleted deletion cell)
overlay_spared deletion (content ∷ layers) cell =
    ap (λ (o : Option Value). option_or o (spared deletion content cell)) (overlay_spared deletion layers cell)
    ∙ spared_or (is_deleted deletion cell) (overlay layers cell) (content cell)

-- one behind the other
pub applied_or : (first second : Effect) (was : Option Value) → applied (option_or second first) was ≡ applied second (applied first was)
applied_or first None was = refl
applied_or first (Some now) was = refl

set_value : (same : Bool) (value : Value) (was : Option Value) → cond same (Some value) was ≡ applied (cond same (Some (Some value)) None) was
set_value true value was = refl
set_value false value was = refl

pub value_after_write : (points : Points) (batch : List Point) (cell : Cell) → value_at (with_points points batch) cell ≡ applied (written batch cell) (value_at points cell)
value_after_write points [] cell = refl
value_after_write points (point ∷ batch) cell =
    value_after_write (with_point points point) batch cell
    ∙ ap (λ (o : Option Value). applied (written batch cell) o)
    (value_at-with_point points point cell ∙ set_value (is_same_cell point.cell cell) point.value (value_at points cell))
    ∙ sym (applied_or (set_by point cell) (written batch cell) (value_at points cell))

kept_value : (deleted : Bool) (was : Option Value) → cond (not deleted) was None ≡ cond deleted None was
kept_value true was = refl
kept_value false was = refl

pub value_without : (points : Points) (deletion : Deletion) (cell : Cell) → value_at (without points deletion) cell ≡ cond (is_deleted deletion cell) None (value_at points cell)
value_without points deletion cell = value_at-without points deletion cell ∙ kept_value (is_deleted deletion cell) (value_at points cell)

pub deleted_value : (deleted : Bool) (was : Option Value) → cond deleted None was ≡ applied (cond deleted (Some None) None) was
deleted_value true was = refl
deleted_value false was = refl

pub value_after_entry : (points : Points) (entry : Entry) (cell : Cell) → value_at (after_entry points entry) cell ≡ applied (effect entry cell) (value_at points cell)
value_after_entry points (Write client batch) cell = value_after_write points batch cell
value_after_entry points (Delete client deletion) cell = value_without points deletion cell ∙ deleted_value (is_deleted deletion cell) (value_at points cell)

pub value_after : (points : Points) (history : List Entry) (cell : Cell) → value_at (after points history) cell ≡ applied (effects history cell) (value_at points cell)
value_after points [] cell = refl
value_after points (entry ∷ history) cell =
    value_after (after_entry points entry) history cell
    ∙ ap (λ (o : Option Value). applied (effects history cell) o) (value_after_entry points entry cell)
    ∙ sym (applied_or (effect entry cell) (effects history cell) (value_at points cell))

pub effects-append : (first second : List Entry) (cell : Cell) → effects (first ++ second) cell ≡ option_or (effects second cell) (effects first cell)
effects-append [] second cell = sym (or_none (effects second cell))
effects-append (entry ∷ first) second cell =
    ap (λ (o : Effect). option_or o (effect entry cell)) (effects-append first second cell)
    ∙ sym (or_assoc (effects second cell) (effects first cell) (effect entry cell))

-- the effect isn't that a value is taken away
abbrev pub IsSet : Effect → Type 0
IsSet None = Unit {0}
IsSet (Some None) = ⊥
IsSet (Some (Some value)) = Unit {0}

or_sets : (first second : Effect) → IsSet first → IsSet second → IsSet (option_or first second)
or_sets None second f s = s
or_sets (Some None) second f s = f
or_sets (Some (Some value)) second f s = tt

sets_some : (same : Bool) (value : Value) → IsSet (cond same (Some (Some value)) None)
sets_some true value = tt
sets_some false value = tt

pub written_sets : (batch : List Point) (cell : Cell) → IsSet (written batch cell)
written_sets [] cell = tt
written_sets (point ∷ batch) cell = or_sets (written batch cell) (set_by point cell) (written_sets batch cell) (sets_some (is_same_cell point.cell cell) point.value)

-- what sets a cell in the newest layer sets what shows
pub set_shows : (effect : Effect) → IsSet effect → (newest older : Option Value) → option_or (applied effect newest) older ≡ applied effect (option_or newest older)
set_shows None s newest older = refl
set_shows (Some None) s newest older = absurd s
set_shows (Some (Some value)) s newest older = refl
