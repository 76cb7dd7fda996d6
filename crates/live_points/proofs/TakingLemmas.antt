-- What each step of a removal does, and of making one.
use Rattle.std.proofs.Common.{◌≡◌, ◌≤◌, ◌∙◌, ap, sym, refl, subst, inl, inr, ⊎_elim, ◌&&◌, ℕ, zero, suc, ◌+◌, ◌<◌, ℤ, Bool, true, false, not, cond, List, [], ◌∷◌, ◌++◌, length, drop, drop-cons, filter, Option, Some, None, is_some, Result, Ok, Err, slice_get, get_or, nat_eq, arith, append-nil, vec_capacity, Vec, Global}
use Rattle.std.specs.Prelude.{IsOk, OnOk}
use Rattle.std.specs.BTreeMap.{BTreeMap, get, is_at}
use Rattle.std.specs.BTreeSet.{contains}
use Rattle.std.specs.Cmp.Lexicographic.{pointwise}
use Rattle.std.specs.Option.{option_or}
use Rattle.std.proofs.lemmas.Bool.{cases_Bool, cond-false, false≢true}
use Rattle.std.proofs.lemmas.Map.Lookups.{exact_bytes}
use Rattle.std.proofs.lemmas.Map.Views.{tells_apart}
use Rattle.std.proofs.lemmas.Option.{slice_get-get_or}
use Rattle.tsdb_types.specs.declared.value.Value.{Value}
use Rattle.tsdb_types.specs.Series.{is_series_of}
use Rattle.point_model.specs.declared.deletion.Deletion.{Deletion}
use Rattle.point_model.specs.Conditions.{meets}
use Rattle.point_model.specs.Cursors.{Key, key_cmp}
use Rattle.point_model.specs.Rows.{Row}
use Rattle.point_model.proofs.EffectLemmas.{or_assoc, or_none}
use Rattle.point_model.proofs.StoredLemmas.{none_some}
use Rattle.point_cache.specs.declared.key_points.KeyRun.{KeyRun}
use Rattle.point_cache.specs.Cached.{is_within, latest, points_at, rows_outside, value_at}
use Rattle.point_cache.specs.Calls as calls
use Rattle.store_trait.specs.Slots.{text_cmp}
use Rattle.live_points.specs.Held.{composite, first_kind}
use Rattle.live_points.specs.Known.{Keys}
use Rattle.live_points.specs.Removed.{ForgetsKeys, HaveRoom, IsOneOf, first_left, is_left, is_met, offered, rows_left}
use Rattle.live_points.proofs.ListedLemmas.{key_exact}

abbrev FieldSamples : Type 0
FieldSamples = BTreeMap (List ℕ) (List ℕ)

-- ---- samples

-- a field with a sample keeps it
pub kept_sample : (old : FieldSamples) (field series : List ℕ) → is_some (get text_cmp old field) ≡ true → (f : List ℕ)
    → get text_cmp old f ≡ option_or (get text_cmp old f) (cond (is_at (text_cmp field) f) (Some series) None)
kept_sample old field series there f = by (is_at (text_cmp field) f) refl (get text_cmp old f) refl
  where
    by : (b : Bool) → is_at (text_cmp field) f ≡ b → (o : Option (List ℕ)) → get text_cmp old f ≡ o → o ≡ option_or o (cond b (Some series) None)
    by true e None is = absurd (false≢true (sym (ap is_some is) ∙ ap (λ (k : List ℕ). is_some (get text_cmp old k)) (sym (tells_apart exact_bytes field f e)) ∙ there))
    by true e (Some x) is = refl
    by false e None is = refl
    by false e (Some x) is = refl

-- a field without one takes it
pub new_sample : (old : FieldSamples) (field series : List ℕ) → get text_cmp old field ≡ None → (f : List ℕ)
    → cond (is_at (text_cmp field) f) (Some series) (get text_cmp old f) ≡ option_or (get text_cmp old f) (cond (is_at (text_cmp field) f) (Some series) None)
new_sample old field series none f = by (is_at (text_cmp field) f) refl (get text_cmp old f) refl
  where
    by : (b : Bool) → is_at (text_cmp field) f ≡ b → (o : Option (List ℕ)) → get text_cmp old f ≡ o → cond b (Some series) o ≡ option_or o (cond b (Some series) None)
    by true e None is = refl
    by true e (Some x) is = absurd (none_some x (sym none ∙ ap (get text_cmp old) (tells_apart exact_bytes field f e) ∙ is))
    by false e None is = refl
    by false e (Some x) is = refl

-- ---- a key that is taken away

pub on_ok_is : {T E P : Type 0} (r : Result T E) → OnOk r P → IsOk r → P
on_ok_is (Ok x) p is = p
on_ok_is (Err e) p is = absurd (false≢true is)

unknown_now : (b had : Bool) → cond b false had ≡ true → had ≡ true
unknown_now true had e = absurd (false≢true e)
unknown_now false had e = e

pub no_rows : (rows : List Row) → is_some (first_kind rows) ≡ false → (time : ℤ) → latest rows time ≡ None
no_rows [] e time = refl
no_rows (row ∷ rows) e time = absurd (false≢true (sym e))

-- a key without points is known no more
pub forgets_key : (runs : List KeyRun) (key : Key) (old new : Keys) → ((time : ℤ) → value_at runs (composite key) time ≡ None)
    → ((other : Key) → contains key_cmp new other ≡ cond (is_at (key_cmp key) other) false (contains key_cmp old other)) → ForgetsKeys runs (key ∷ []) old new
forgets_key runs key old new none is = record {
  only = λ other known. unknown_now (is_at (key_cmp key) other) (contains key_cmp old other) (sym (is other) ∙ known);
  kept = λ other known.
      ⊎_elim
      (λ (e : is_at (key_cmp key) other ≡ true).
      let same : key ≡ other = tells_apart key_exact key other e in
      inr ((0, ap Some same), λ time. ap (λ (k : Key). value_at runs (composite k) time) (sym same) ∙ none time))
      (λ (e : is_at (key_cmp key) other ≡ false). inl (is other ∙ cond-false (is_at (key_cmp key) other) false (contains key_cmp old other) e ∙ known))
      (cases_Bool (is_at (key_cmp key) other));
}

pub forgets_none : (runs : List KeyRun) (keys : List Key) (known : Keys) → ForgetsKeys runs keys known known
forgets_none runs keys known = record { only = λ other is. is; kept = λ other is. inl is }

none_stays : (b : Bool) (was : Option Value) → was ≡ None → cond b None was ≡ None
none_stays true was is = refl
none_stays false was is = is

-- one key more
pub forgets_step : (keys : List Key) (key : Key) (from to : ℤ) (mid_runs new_runs : List KeyRun) (old mid new : Keys) → IsOneOf keys key
    → ((bytes : List ℕ) (time : ℤ) → value_at new_runs bytes time ≡ calls.value_without (composite key) from to bytes time (value_at mid_runs bytes time))
    → ForgetsKeys mid_runs keys old mid → ForgetsKeys new_runs (key ∷ []) mid new → ForgetsKeys new_runs keys old new
forgets_step keys key from to mid_runs new_runs old mid new there values before step = record {
  only = λ other known. before.only other (step.only other known);
  kept = λ other known.
      ⊎_elim
      (λ still. ⊎_elim (λ now. inl now) (λ gone. inr (subst (λ (k : Key). IsOneOf keys k) (one_is other gone.0) there, gone.1)) (step.kept other still))
      (λ gone.
      inr (
        gone.0,
        λ time.
            values (composite other) time
            ∙ none_stays (pointwise nat_eq (composite other) (composite key) && is_within from to time) (value_at mid_runs (composite other) time) (gone.1 time),
      ))
      (before.kept other known);
}
  where
    some_same : (a b : Key) → Some a ≡ Some b → a ≡ b
    some_same a b e = cc

    one_is : (other : Key) → IsOneOf (key ∷ []) other → key ≡ other
    one_is other one = by one.0 one.1
      where
        by : (place : ℕ) → slice_get (key ∷ []) place ≡ Some other → key ≡ other
        by zero at = some_same key other at
        by (suc place) at = absurd (none_some other at)

-- the item of a loop over a list
pub key_at : (keys : List Key) (i : ℕ) (item : Key) → i < length keys → item ≡ get_or keys i item → slice_get keys i ≡ Some item
key_at keys i item l is = slice_get-get_or keys i item l ∙ ap Some (sym is)

pub rest_at : {X : Type 0} (xs : List X) (i : ℕ) (item : X) → i < length xs → item ≡ get_or xs i item → drop i xs ≡ item ∷ drop (i + 1) xs
rest_at xs i item l is =
    let one : suc i ≡ i + 1 = omega arith in
    drop-cons xs i item l ∙ ap (λ (x : _). x ∷ drop (suc i) xs) (sym is) ∙ ap (λ (n : ℕ). item ∷ drop n xs) one

-- ---- rows that stay

pub inside_skipped : (from to : ℤ) (row : Row) (rows : List Row) → is_within from to row.0 ≡ true → rows_outside from to (row ∷ rows) ≡ rows_outside from to rows
inside_skipped from to row rows is = ap (λ (b : Bool). cond (not b) (row ∷ rows_outside from to rows) (rows_outside from to rows)) is

pub outside_found : (from to : ℤ) (row : Row) (rows : List Row) → is_within from to row.0 ≡ false → is_some (first_kind (rows_outside from to (row ∷ rows))) ≡ true
outside_found from to row rows is = ap (λ (b : Bool). is_some (first_kind (cond (not b) (row ∷ rows_outside from to rows) (rows_outside from to rows)))) is

-- ---- room

pub room_kept : (old new : Vec ℕ Global) (keys : List Key) → vec_capacity old ≤ vec_capacity new → HaveRoom old keys → HaveRoom new keys
room_kept old new [] more room = tt
room_kept old new (key ∷ keys) more room = (let first = room.0 in omega (arith, first, more), room_kept old new keys more room.1)

pub room_more : (buffer : Vec ℕ Global) (keys : List Key) (key : Key) → HaveRoom buffer keys → length (composite key) ≤ vec_capacity buffer → HaveRoom buffer (keys ++ key ∷ [])
room_more buffer [] key room more = (more, tt)
room_more buffer (first ∷ keys) key room more = (room.0, room_more buffer keys key room.1 more)

-- ---- what a key has to offer

pub none_offered : (runs : List KeyRun) (deletion : Deletion) (key : Key) (old : FieldSamples) → is_left runs deletion key ≡ false → (f : List ℕ)
    → get text_cmp old f ≡ option_or (get text_cmp old f) (offered runs deletion f key)
none_offered runs deletion key old is f =
    sym (ap (λ (b : Bool). option_or (get text_cmp old f) (cond (b && is_at (text_cmp key.1) f) (Some key.0) None)) is ∙ or_none (get text_cmp old f))

pub one_offered : (runs : List KeyRun) (deletion : Deletion) (key : Key) (old new : FieldSamples) → is_left runs deletion key ≡ true
    → ((f : List ℕ) → get text_cmp new f ≡ option_or (get text_cmp old f) (cond (is_at (text_cmp key.1) f) (Some key.0) None))
    → (f : List ℕ) → get text_cmp new f ≡ option_or (get text_cmp old f) (offered runs deletion f key)
one_offered runs deletion key old new is set f =
    set f ∙ sym (ap (λ (b : Bool). option_or (get text_cmp old f) (cond (b && is_at (text_cmp key.1) f) (Some key.0) None)) is)

-- a step of the loop over the keys
pub samples_step : (runs : List KeyRun) (deletion : Deletion) (key : Key) (keys : List Key) (old new : FieldSamples)
    → ((f : List ℕ) → get text_cmp new f ≡ option_or (get text_cmp old f) (offered runs deletion f key))
    → (f : List ℕ) → option_or (get text_cmp new f) (first_left runs deletion f keys) ≡ option_or (get text_cmp old f) (first_left runs deletion f (key ∷ keys))
samples_step runs deletion key keys old new set f =
    ap (λ (o : Option (List ℕ)). option_or o (first_left runs deletion f keys)) (set f)
    ∙ sym (or_assoc (get text_cmp old f) (offered runs deletion f key) (first_left runs deletion f keys))

pub left_is : (runs : List KeyRun) (deletion : Deletion) (key : Key) (met : Bool) → is_series_of deletion.measurement key.0 ≡ true → meets deletion.tags key.0 ≡ met
    → is_left runs deletion key ≡ is_some (first_kind (cond met (rows_outside deletion.from deletion.to (points_at runs (composite key))) (points_at runs (composite key))))
left_is runs deletion key met of is =
    ap (λ (b : Bool). b && is_some (first_kind (rows_left runs deletion key))) of
    ∙ ap (λ (b : Bool). is_some (first_kind (cond b (rows_outside deletion.from deletion.to (points_at runs (composite key))) (points_at runs (composite key))))) is

pub none_met : (deletion : Deletion) (keys : List Key) (key : Key) → is_met deletion key ≡ false → keys ≡ keys ++ filter (is_met deletion) (key ∷ [])
none_met deletion keys key is = sym (ap (λ (b : Bool). keys ++ cond b (key ∷ []) []) is ∙ append-nil keys)

pub one_met : (deletion : Deletion) (keys new : List Key) (key : Key) → is_met deletion key ≡ true → new ≡ keys ++ key ∷ [] → new ≡ keys ++ filter (is_met deletion) (key ∷ [])
one_met deletion keys new key is pushed = pushed ∙ sym (ap (λ (b : Bool). keys ++ cond b (key ∷ []) []) is)
