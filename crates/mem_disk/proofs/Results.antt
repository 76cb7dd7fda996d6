-- Facts about a result.
use Rattle.std.proofs.Common.{◌≡◌, ℕ, ◌+◌, ◌≤◌, Bool, true, false, cond, refl, sym, ◌∙◌, ap, arith, Option, Some, None}
use Rattle.std.proofs.lemmas.Bool.{false≢true}
use Rattle.std.specs.Prelude.{OnOk, OnErr, IfOk, is_err, is_some, not, if◌then◌else◌}
use Rattle.std.specs.declared.result.Result.{Result}
use Rattle.std.specs.declared.result.Result.TheVariants.{Ok, Err}
use Rattle.shard_disk.specs.HandedOut.{HandedOut}

pub on_ok_then : {T E A B : Type 0} (r : Result T E) → (A → B) → OnOk r A → OnOk r B
on_ok_then (Ok x) leads a = leads a
on_ok_then (Err e) leads a = a

pub on_either : {T E A B A' B' C : Type 0} (r : Result T E) → OnOk r A → OnOk r B → OnErr r A' → OnErr r B' → (A → B → C) → (A' → B' → C) → C
on_either (Ok x) a b a' b' ok err = ok a b
on_either (Err e) a b a' b' ok err = err a' b'

-- a result that is no error
pub when_ok : {T E P : Type 0} (r : Result T E) → is_err r ≡ false → OnOk r P → P
when_ok (Ok x) not_err p = p
when_ok (Err e) not_err p = absurd (false≢true (sym not_err))

-- a map has one key more at most, after an insertion that is no error
pub grows_by_one : {V E : Type 0} (r : Result (Option V) E) (n m : ℕ) → is_err r ≡ false → IfOk r (λ old. m ≡ n + (if is_some old then 0 else 1)) → m ≤ n + 1
grows_by_one (Ok None) n m not_err is = omega (arith, is)
grows_by_one (Ok (Some v)) n m not_err is = omega (arith, is)
grows_by_one (Err e) n m not_err is = absurd (false≢true (sym not_err))

-- a set does
pub one_more : (b : Bool) (n m : ℕ) → m ≡ n + cond b 1 0 → m ≤ n + 1
one_more true n m is = omega (arith, is)
one_more false n m is = omega (arith, is)

-- an option that isn't none
pub some_if : {V : Type 0} (o : Option V) (none : Bool) (n m : ℕ) → is_some o ≡ not none → none ≡ false → m + (if is_some o then 1 else 0) ≡ n → m + 1 ≡ n
some_if None none n m test some is = absurd (false≢true (test ∙ ap not some))
some_if (Some v) none n m test some is = is

-- a test that a call answers, as it was met
pub flips : {a b c : Bool} → a ≡ b → a ≡ c → b ≡ c
flips is met = sym is ∙ met

pub none_when : {V : Type 0} (o : Option V) → is_some o ≡ false → o ≡ None
none_when None not_some = refl
none_when (Some v) not_some = absurd (false≢true (sym not_some))

abbrev pub handed : ℕ → (ℕ → ℕ) → (ℕ → Bool) → HandedOut
handed next readers adopted = record { next_number = next; readers = readers; adopted = adopted }

-- the same was handed out where the next number and the adopted files are the same
pub same_handed : (next next' : ℕ) (readers : ℕ → ℕ) (adopted adopted' : ℕ → Bool) → next' ≡ next → adopted' ≡ adopted → handed next' readers adopted' ≡ handed next readers adopted
same_handed next next' readers adopted adopted' number set = λ i. record { next_number = number i; readers = readers; adopted = set i }
