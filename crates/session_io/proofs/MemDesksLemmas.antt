-- The first of what a desk in memory holds under a name is taken out.
use Rattle.std.proofs.Common.{◌≡◌, ℕ, ◌<◌, ◌≤◌, Bool, true, ◌&&◌, IsTrue, List, ◌∷◌, ◌++◌, length, take, drop, map, suc, refl, sym, ◌∙◌, ap, subst, arith, Ok, Err}
use Rattle.std.specs.Prelude.{All, Any, Option, IsSomeAnd}
use Rattle.std.specs.List.{list_all, slice_index_or, remove}
use Rattle.std.proofs.Math.Seq.{drop-cons}
use Rattle.std.proofs.lemmas.List.{take-append-drop, map-append}
use Rattle.std.proofs.lemmas.Option.{slice_get_read}
use Rattle.std.proofs.lemmas.List.Elements.{All-append, All-drop, All-map, All-take}
use Rattle.std.proofs.lemmas.List.Folds.{list_all-append}
use Rattle.std.proofs.lemmas.Bool.{and_parts, and_from}
use Rattle.shard_disk.specs.Health.{Health, Rose}
use Rattle.shard_disk.specs.declared.trouble.Trouble.TheVariants as trouble
use Rattle.session_io.specs.Clients.{OpeningHasCause}
use Rattle.session_io.specs.Taking.{TakesFirst}
use Rattle.session_io.specs.MemDesks.{Dir, Entry, IsFirst, IsNone, health_with, is_steady_entry}

-- where no entry is named so, none that is held is
pub none_held : {E H : Type 0} (Named : H → Type 0) (view : E → H) (entries : List E) → IsNone (λ entry. Named (view entry)) entries → Any Named (map view entries) → ⊥
none_held Named view entries none some =
    let none_of : All (λ held. ¬ (Named held)) (map view entries) = All-map (λ held. ¬ (Named held)) view entries none in
    none_of some.0 some.1 some.2 (subst Named (sym some.3) some.4)

-- a list is what stands before a place, what stands there, and what is behind
pub split_at_place : {E : Type 0} (entries : List E) (place : ℕ) (entry : E) → place < length entries → entry ≡ slice_index_or entries place entry → entries ≡ take place entries ++ entry ∷ drop (suc place) entries
split_at_place {E} entries place entry within is =
    sym (take-append-drop place entries) ∙ ap (λ rest. take place entries ++ rest) (drop-cons entries place entry within)
    ∙ ap (λ (e : E). take place entries ++ e ∷ drop (suc place) entries) (sym is)

-- the entry that was found is named so
pub named_at : {E : Type 0} (Is : E → Type 0) (entries : List E) (place : ℕ) (entry : E) → IsFirst Is entries place → entry ≡ slice_index_or entries place entry → Is entry
named_at {E} Is entries place entry found is =
    subst (λ (o : Option E). IsSomeAnd o Is) (slice_get_read entries (length entries) place entry refl found.within is) found.here

pub takes_first : {E H : Type 0} (Named : H → Type 0) (view : E → H) (entries : List E) (place : ℕ) (entry : E) (taken : H) → IsFirst (λ entry. Named (view entry)) entries place → view entry ≡ taken
    → entry ≡ slice_index_or entries place entry → TakesFirst Named taken (map view entries) (map view (remove entries place))
takes_first {E} {H} Named view entries place entry taken found as_held is =
    let before : List E = take place entries in
    let after : List E = drop (suc place) entries in
    record {
      before = map view before;
      after = map view after;
      was = ap (map view) (split_at_place entries place entry found.within is) ∙ map-append view before (entry ∷ after)
          ∙ ap (λ (held : H). map view before ++ held ∷ map view after) as_held;
      is = map-append view before after;
      first = All-map (λ held. ¬ (Named held)) view before found.first;
    }

-- where all entries are steady, so are all but one
pub all_but_one : {E : Type 0} (is_steady : E → Bool) (entries : List E) (place : ℕ) (entry : E) → place < length entries → entry ≡ slice_index_or entries place entry → IsTrue (list_all is_steady entries) → list_all is_steady (remove entries place) ≡ true
all_but_one {E} is_steady entries place entry within is steady =
    let before : List E = take place entries in
    let after : List E = drop (suc place) entries in
    let all = and_parts (list_all is_steady before) (list_all is_steady (entry ∷ after))
    (sym (list_all-append is_steady before (entry ∷ after)) ∙ sym (ap (list_all is_steady) (split_at_place entries place entry within is)) ∙ steady) in
    let rest = and_parts (is_steady entry) (list_all is_steady after) all.1 in
    list_all-append is_steady before after ∙ and_from (list_all is_steady before) (list_all is_steady after) all.0 rest.1

-- where all entries are steady, so is each
pub steady_one : {E : Type 0} (is_steady : E → Bool) (entries : List E) (place : ℕ) (entry : E) → place < length entries → entry ≡ slice_index_or entries place entry → IsTrue (list_all is_steady entries) → IsTrue (is_steady entry)
steady_one {E} is_steady entries place entry within is steady =
    let before : List E = take place entries in
    let after : List E = drop (suc place) entries in
    let all = and_parts (list_all is_steady before) (list_all is_steady (entry ∷ after))
    (sym (list_all-append is_steady before (entry ∷ after)) ∙ sym (ap (list_all is_steady) (split_at_place entries place entry within is)) ∙ steady) in
    (and_parts (is_steady entry) (list_all is_steady after) all.1).0

-- what holds of all entries holds of all but one
pub all_left : {E : Type 0} (P : E → Type 0) (entries : List E) (place : ℕ) → All P entries → All P (remove entries place)
all_left P entries place all = All-append P (take place entries) (drop (suc place) entries) (All-take P place entries all) (All-drop P (suc place) entries all)

-- a desk that was steady is as steady without some of what it held
pub steady_still : {D : Type 0} (disk_health : D → Health) (own : Health) (held held' : List Entry) (dirs dirs' : List (Dir D)) → IsTrue (health_with disk_health own held dirs).is_steady
    → (IsTrue (list_all is_steady_entry held) → list_all is_steady_entry held' ≡ true)
    → (IsTrue (list_all (λ (dir : Dir D). (disk_health dir.1).is_steady) dirs) → list_all (λ (dir : Dir D). (disk_health dir.1).is_steady) dirs' ≡ true)
    → health_with disk_health own held' dirs' ≡ health_with disk_health own held dirs
steady_still {D} disk_health own held held' dirs dirs' steady clients directories =
    let of_dirs : List (Dir D) → Bool = list_all (λ (dir : Dir D). (disk_health dir.1).is_steady) in
    let of_held : List Entry → Bool = list_all is_steady_entry in
    let parts = and_parts own.is_steady (of_held held && of_dirs dirs) steady in
    let both = and_parts (of_held held) (of_dirs dirs) parts.1 in
    let now : (own.is_steady && (of_held held' && of_dirs dirs')) ≡ true =
    and_from own.is_steady (of_held held' && of_dirs dirs') parts.0 (and_from (of_held held') (of_dirs dirs') (clients both.0) (directories both.1)) in
    ap (λ (b : Bool). let h : Health = record { faults = own.faults; is_steady = b } in h) (now ∙ sym steady)

-- the causes of an opening that succeeded
pub opened : {T : Type 0} (item : T) (is_held : Type 0) (old new : Health) → new.faults ≡ old.faults → (IsTrue old.is_steady → new ≡ old) → OpeningHasCause {T = T} (Ok item) is_held old new
opened item is_held old new faults steady = record {
  later = omega (arith, faults);
  fault = λ is. cc;
  memory = λ is. cc;
  ok = λ is. faults;
  steady = λ is held. (steady is, λ fault. cc);
}

-- the causes of one at names under which nothing is held
pub not_held : {T : Type 0} (is_held : Type 0) (old new : Health) → old.faults ≤ new.faults → Rose old.faults new.faults → (is_held → ⊥) → OpeningHasCause {T = T} (Err trouble.Fault) is_held old new
not_held is_held old new later rose none = record {
  later = later;
  fault = λ is. rose;
  memory = λ is. cc;
  ok = λ is. cc;
  steady = λ is held. absurd (none held);
}
