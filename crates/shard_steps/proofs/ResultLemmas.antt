-- What is known of a result, by cases.
use Rattle.std.proofs.Common.{◌≡◌, Result, Ok, Err, Option, Some, None, refl, sym}
use Rattle.std.specs.Prelude.{IfOk, IfErr, OnErr}
use Rattle.std.specs.Option.{option_map}

-- nothing is found in what isn't there
pub none_found : {X Y : Type 0} (f : X → Y) (found : Option X) (is : Option Y) → ((x : X) → found ≡ Some x → ⊥) → option_map f found ≡ is → is ≡ None
none_found f None is none maps = sym maps
none_found f (Some x) is none maps = absurd (none x refl)

pub if_ok_then : {T E : Type 0} {P Q : T → Type 0} (r : Result T E) → ((x : T) → P x → Q x) → IfOk r P → IfOk r Q
if_ok_then (Ok x) leads p = leads x p
if_ok_then (Err e) leads p = p

pub if_err_then : {T E : Type 0} {P Q : E → Type 0} (r : Result T E) → ((e : E) → P e → Q e) → IfErr r P → IfErr r Q
if_err_then (Ok x) leads p = p
if_err_then (Err e) leads p = leads e p

pub on_err_then : {T E A B : Type 0} (r : Result T E) → (A → B) → OnErr r A → OnErr r B
on_err_then (Ok x) leads a = a
on_err_then (Err e) leads a = leads a
