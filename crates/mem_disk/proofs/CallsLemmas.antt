-- Calls that aren't named leave a device as steady as it was.
use Rattle.std.proofs.Common.{◌≡◌, ℕ, ◌+◌, ◌≤◌, ◌<◌, Bool, true, false, ◌||◌, ◌&&◌, List, [], ◌∷◌, ◌≢◌, ◌⊎◌, inl, inr, min, refl, sym, ◌∙◌, ap, eqb, ltb, eq-eqb, arith, Option, None, Some}
use Rattle.std.specs.Prelude.{is_none}
use Rattle.std.proofs.lemmas.Bool.{false≢true, cases_eq}
use Rattle.shard_disk.specs.Health.{Health, Ages, Failed}
use Rattle.std.proofs.lemmas.Bool.Decides.{nat_tests}
use Rattle.std.specs.List.{list_any, filter_map}
use Rattle.mem_disk.specs.Called.{is_failing_at}
use Rattle.mem_disk.specs.Calls.{is_at, is_past, read_of, write_of, is_quiet, is_over}
use Rattle.mem_disk.specs.declared.fail.Fail.{Fail}
use Rattle.mem_disk.specs.declared.fail.Fail.TheVariants.{Disk, Reader, Writer}

pub none_of : (a b : Bool) → (a || b) ≡ false → (a ≡ false) × (b ≡ false)
none_of true b is = absurd (false≢true (sym is))
none_of false b is = (refl, is)

both_of : (a b : Bool) → (a && b) ≡ true → (a ≡ true) × (b ≡ true)
both_of true b is = (refl, is)
both_of false b is = absurd (false≢true is)

pub second_of : (a b : Bool) → (a && b) ≡ true → b ≡ true
second_of a b is = (both_of a b is).1

past_same : (p n n' : ℕ) → eqb p n ≡ false → n ≤ n' → n' ≤ n + 1 → ltb p n' ≡ ltb p n
past_same p n n' apart le up = grind (arith, nat_tests)

-- no call of a reader or writer at this place is named
pub over_same : (failing : List ℕ) (n n' : ℕ) → list_any (λ at. eqb at n) failing ≡ false → n ≤ n' → n' ≤ n + 1 → is_over failing n' ≡ is_over failing n
over_same [] n n' apart le up = refl
over_same (at ∷ failing) n n' apart le up =
    let each = none_of (eqb at n) (list_any (λ p. eqb p n) failing) apart in
    ap (λ (b : Bool). b && is_over failing n') (past_same at n n' each.0 le up) ∙ ap (λ (b : Bool). ltb at n && b) (over_same failing n n' each.1 le up)

past_step : (fail : Fail) (n n' : ℕ) → is_at n fail ≡ false → n ≤ n' → n' ≤ n + 1 → is_past n' fail ≡ is_past n fail
past_step (Disk at) n n' apart le up = past_same at n n' apart le up
past_step (Reader maker at) n n' apart le up = refl
past_step (Writer maker at) n n' apart le up = refl

-- no call of the disk at this place is named
pub quiet_same : (failing : List Fail) (n n' : ℕ) → list_any (is_at n) failing ≡ false → n ≤ n' → n' ≤ n + 1 → is_quiet failing n' ≡ is_quiet failing n
quiet_same [] n n' apart le up = refl
quiet_same (fail ∷ failing) n n' apart le up =
    let each = none_of (is_at n fail) (list_any (is_at n) failing) apart in
    ap (λ (b : Bool). b && is_quiet failing n') (past_step fail n n' each.0 le up) ∙ ap (λ (b : Bool). is_past n fail && b) (quiet_same failing n n' each.1 le up)

no_read : (fail : Fail) (n maker : ℕ) → is_past n fail ≡ true → read_of maker fail ≡ None
no_read (Disk at) n maker is = refl
no_read (Reader from at) n maker is = absurd (false≢true is)
no_read (Writer from at) n maker is = refl

no_write : (fail : Fail) (n maker : ℕ) → is_past n fail ≡ true → write_of maker fail ≡ None
no_write (Disk at) n maker is = refl
no_write (Reader from at) n maker is = refl
no_write (Writer from at) n maker is = absurd (false≢true is)

-- a quiet list names no call of a reader, nor of a writer
pub reads_none : (failing : List Fail) (n maker : ℕ) → is_quiet failing n ≡ true → filter_map (read_of maker) failing ≡ []
reads_none [] n maker quiet = refl
reads_none (fail ∷ failing) n maker quiet =
    let each = both_of (is_past n fail) (is_quiet failing n) quiet in rw (no_read fail n maker each.0) (reads_none failing n maker each.1)

pub writes_none : (failing : List Fail) (n maker : ℕ) → is_quiet failing n ≡ true → filter_map (write_of maker) failing ≡ []
writes_none [] n maker quiet = refl
writes_none (fail ∷ failing) n maker quiet =
    let each = both_of (is_past n fail) (is_quiet failing n) quiet in rw (no_write fail n maker each.0) (writes_none failing n maker each.1)

is_end : (p n : ℕ) (b : Bool) → (eqb p n || b) ≡ true → (eqb p n ≡ true) × (ltb p n ≡ false) ⊎ (b ≡ true)
is_end p n b is = elim (cases_eq p n) [
  | inl same ↦ inl (eq-eqb p n same, rw same (not_below n))
  | inr apart ↦ inr (elim b as (λ x. (eqb p n || x) ≡ true → x ≡ true) [ true ↦ λ _. refl | false ↦ λ e. absurd (false≢true (sym (not_same p n apart) ∙ sym (or_false (eqb p n)) ∙ e)) ] is)
]
  where
    not_below : (k : ℕ) → ltb k k ≡ false
    not_below k = grind (arith, nat_tests)

    not_same : (a b : ℕ) → a ≢ b → eqb a b ≡ false
    not_same a b apart = grind (arith, nat_tests)

    or_false : (a : Bool) → (a || false) ≡ a
    or_false true = refl
    or_false false = refl

pub and_false : (a b : Bool) → b ≡ false → (a && b) ≡ false
and_false true b is = is
and_false false b is = refl

-- a call of a reader or writer at this place is named, so it may still fail
pub named_over : (failing : List ℕ) (n : ℕ) → list_any (λ at. eqb at n) failing ≡ true → is_over failing n ≡ false
named_over [] n is = absurd (false≢true is)
named_over (at ∷ failing) n is = elim (is_end at n (list_any (λ p. eqb p n) failing) is) [
  | inl here ↦ ap (λ (b : Bool). b && is_over failing n) here.1
  | inr later ↦ and_false (ltb at n) (is_over failing n) (named_over failing n later)
]

-- the same of a disk
pub named_quiet : (failing : List Fail) (n : ℕ) → list_any (is_at n) failing ≡ true → is_quiet failing n ≡ false
named_quiet [] n is = absurd (false≢true is)
named_quiet (Disk at ∷ failing) n is = elim (is_end at n (list_any (is_at n) failing) is) [
  | inl here ↦ ap (λ (b : Bool). b && is_quiet failing n) here.1
  | inr later ↦ and_false (ltb at n) (is_quiet failing n) (named_quiet failing n later)
]
named_quiet (Reader from at ∷ failing) n is = refl
named_quiet (Writer from at ∷ failing) n is = refl

abbrev pub health : ℕ → Bool → Health
health faults steady = record { faults = faults; is_steady = steady }

-- the same count and the same steadiness
pub same_health : (faults : ℕ) (a b : Bool) → b ≡ a → health faults b ≡ health faults a
same_health faults a b is = ap (λ (x : Bool). health faults x) is

pub health_ages : (a b : Health) → a ≡ b → Ages a b
health_ages a b is = record { later = omega (arith, ap (λ (h : Health). h.faults) is); steady = λ _. sym is }

-- a call failed of one that may still fail
pub counted : (old new : ℕ) (a b : Bool) → a ≡ false → new ≡ min (old + 1) 18446744073709551615
    → Failed (health old a) (health new b)
counted old new a b unsteady is = record { rose = omega (arith, is); unsteady = unsteady }

pub counted_ages : (old new : ℕ) (a b : Bool) → a ≡ false → new ≡ min (old + 1) 18446744073709551615 → old < 18446744073709551616
    → Ages (health old a) (health new b)
counted_ages old new a b unsteady is fits = record { later = omega (arith, is, fits); steady = λ steady. absurd (false≢true (sym unsteady ∙ steady)) }

-- a disk whose next call fails isn't steady
pub failing_unsteady : (failing : List Fail) (stop : Option ℕ) (n : ℕ) → is_failing_at failing stop n ≡ true → (is_none stop && is_quiet failing n) ≡ false
failing_unsteady failing None n is = named_quiet failing n (sym (or_none (list_any (is_at n) failing)) ∙ is)
  where
    or_none : (a : Bool) → (a || false) ≡ a
    or_none true = refl
    or_none false = refl
failing_unsteady failing (Some stop) n is = refl
