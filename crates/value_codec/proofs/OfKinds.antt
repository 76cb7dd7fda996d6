-- Values of a kind, and their bytes.
use Rattle.std.proofs.Common.{◌≡◌, ◌≢◌, Bool, List, length, map, subst, sym, ◌∙◌, refl, Result, Ok, Err, IfOk}
use Rattle.std.proofs.lemmas.List.{length-map}
use Rattle.tsdb_types.specs.declared.value.Kind.{Kind}
use Rattle.tsdb_types.specs.declared.value.Kind.TheVariants.{Integer, Unsigned, Boolean}
use Rattle.tsdb_types.specs.declared.value.Value.{Value}
use Rattle.tsdb_types.specs.declared.value.Value.TheVariants.{Int, Uint, Bool as Truth}
use Rattle.tsdb_types.specs.Values.{kind_of}
use Rattle.value_codec.specs.Steps.{steps_from, coded_steps}
use Rattle.value_codec.specs.Booleans.{coded_booleans}
use Rattle.value_codec.specs.Coding.{coded_as, number_of, truth_of, IsInRange}
use Rattle.value_codec.proofs.StepLemmas.{length-steps_from}

pub coded_booleans-is : (values : List Value) → coded_as Boolean values ≡ coded_booleans (map truth_of values)
unfolding coded_as
coded_booleans-is values = refl

pub coded_numbers-is : (kind : Kind) (values : List Value) → kind ≢ Boolean → coded_as kind values ≡ coded_steps (steps_from 0 (map number_of values))
unfolding coded_as
coded_numbers-is Integer values other = refl
coded_numbers-is Unsigned values other = refl
coded_numbers-is Boolean values other = absurd (other refl)

pub length-steps : (values : List Value) → length (steps_from 0 (map number_of values)) ≡ length values
length-steps values = length-steps_from 0 (map number_of values) ∙ length-map values number_of

-- three facts of one answer give a fourth
pub all_three : {T E : Type 0} (r : Result T E) (P Q R S : T → Type 0) → ((x : T) → P x → Q x → R x → S x) → IfOk r P → IfOk r Q → IfOk r R → IfOk r S
all_three (Ok x) P Q R S f p q r = f x p q r
all_three (Err e) P Q R S f p q r = tt

pub both : {T E : Type 0} (r : Result T E) (P Q R : T → Type 0) → ((x : T) → P x → Q x → R x) → IfOk r P → IfOk r Q → IfOk r R
both (Ok x) P Q R f p q = f x p q
both (Err e) P Q R f p q = tt

-- a value that is of no kind of numbers
pub boolean_is : (value : Value) → kind_of value ≡ Boolean → (truth : Bool) × (value ≡ Truth truth)
boolean_is (Int number) is = cc
boolean_is (Uint number) is = cc
boolean_is (Truth truth) is = (truth, refl)

-- a Boolean is always in range
pub boolean_range : (value : Value) → kind_of value ≡ Boolean → IsInRange value
boolean_range value is = let found = boolean_is value is in subst IsInRange (sym found.1) tt
