-- Points that are pushed one after the other under a key.
use Rattle.std.proofs.Common.{◌≡◌, ◌+◌, ◌*◌, add-one, suc-mul, zero-mul, mul-le-mul_right, le_trans, ◌<◌, ◌≤◌, ◌⊎◌, ℕ, ℤ, ◌<ℤ◌, List, [], ◌∷◌, ◌++◌, length, Option, None, Some, IfSome, inl, inr, refl, sym, ap, ◌∙◌, subst, arith}
use Rattle.std.specs.Prelude.{⊤}
use Rattle.std.specs.List.{last_or}
use Rattle.std.specs.Option.{option_map}
use Rattle.std.specs.Str.{bytes_eq}
use Rattle.std.proofs.lemmas.List.{length-append}
use Rattle.std.proofs.lemmas.List.Sums.{count_by-le-length}
use Rattle.shard_disk.specs.Stage.{Stage}
use Rattle.tsdb_types.specs.Keys.{MarkAt}
use Rattle.tsdb_types.specs.Values.{kind_of}
use Rattle.tsdb_types.specs.declared.value.Kind.TheVariants.{Integer}
use Rattle.tsdb_types.specs.declared.value.Value.{Value}
use Rattle.tsm_format.specs.Rows.{IsAbove}
use Rattle.point_model.specs.Rows.{Row}
use Rattle.tsm_file.specs.Written.{KeyedPoint}
use Rattle.tsm_file.specs.Writing.{Follows, Holds, MayCome}
use Rattle.tsm_file.specs.Tried.{HasPushed}
use Rattle.tsm_file.specs.declared.writer.TsmWriter.{TsmWriter}
use Rattle.tsm_file.proofs.WrittenLemmas.{last_or-append}
use Rattle.tsm_bench.specs.Runs.{Run}

-- a point under a key
abbrev pub under : List ℕ → Row → KeyedPoint
under key point = record { key = key; time = point.0; value = point.1 }

-- behind this point the others may be pushed under the key, one after the other
abbrev pub MayFollow : Option KeyedPoint → List ℕ → List Row → Type 0
MayFollow before key [] = ⊤
MayFollow before key (point ∷ points) = IfSome before (λ earlier. Follows earlier (under key point)) × MayFollow (Some (under key point)) key points

-- behind at most so many points the run of the key is pushed but for the rest
pub record IsUnderway {W : Type 0} (tells : Type 0) (content : W → List ℕ) (stage : W → Stage) (writer : TsmWriter W) (key : List ℕ) (most : ℕ) (points rest : List Row) : Type 0 where
  pub pushed : List KeyedPoint
  pub holds : Holds tells content stage writer pushed
  pub few : length pushed + length rest ≤ most + length points
  pub may : MayFollow (last_or None pushed) key rest
  pub ends : (rest ≡ points) ⊎ (option_map (λ point. point.key) (last_or None pushed) ≡ Some key)

-- a run may go on under a key
run_under : (key : List ℕ) (before : Row) (points : List Row) → Run (Some before) points → MayFollow (Some (under key before)) key points
run_under key before [] run = tt
run_under key before (point ∷ points) run = (inr (record { key = refl; later = run.0.0; alike = run.0.1 }), run_under key point points run.1)

key_above : (last : Option KeyedPoint) (key : List ℕ) (above : Option (List ℕ)) (point : Row) → option_map (λ p. p.key) last ≡ above → IsAbove above key → IfSome last (λ before. Follows before (under key point))
key_above None key above point is goes = tt
key_above (Some before) key above point is goes = inl (subst (λ (l : Option (List ℕ)). IsAbove l key) (sym is) goes)

may_begin : (last : Option KeyedPoint) (key : List ℕ) (above : Option (List ℕ)) (points : List Row) → option_map (λ p. p.key) last ≡ above → IsAbove above key → Run None points → MayFollow last key points
may_begin last key above [] is goes run = tt
may_begin last key above (point ∷ points) is goes run = (key_above last key above point is goes, run_under key point points run.1)

pub run_begins : {W : Type 0} (tells : Type 0) (content : W → List ℕ) (stage : W → Stage) (writer : TsmWriter W) (key : List ℕ) (most : ℕ) (last : Option (List ℕ)) (points : List Row)
    → HasPushed tells content stage writer most last → IsAbove last key → Run None points → IsUnderway tells content stage writer key most points points
run_begins tells content stage writer key most last points has above run = record {
  pushed = has.pushed;
  holds = has.holds;
  few = (let few = has.few in omega arith);
  may = may_begin (last_or None has.pushed) key last points has.ends above run;
  ends = inl refl;
}

pub run_may : {W : Type 0} (tells : Type 0) (content : W → List ℕ) (stage : W → Stage) (writer : TsmWriter W) (key : List ℕ) (most : ℕ) (points behind : List Row) (point : Row)
    → (run : IsUnderway tells content stage writer key most points (point ∷ behind)) → length key ≤ 65535 → ((at : ℕ) × MarkAt key at) → most + length points ≤ 65535000
    → MayCome run.pushed (under key point)
run_may tells content stage writer key most points behind point run fits mark bound = record {
  follows = run.may.0;
  fits = fits;
  mark = mark;
  few = (let few = run.few in omega (arith, count_by-le-length (λ (one : KeyedPoint). bytes_eq one.key key) run.pushed));
}

pub run_more : {W : Type 0} (tells : Type 0) (content : W → List ℕ) (stage : W → Stage) (old new : TsmWriter W) (key : List ℕ) (most : ℕ) (points behind : List Row) (point : Row)
    → (run : IsUnderway tells content stage old key most points (point ∷ behind)) → Holds tells content stage new (run.pushed ++ (under key point ∷ []))
    → IsUnderway tells content stage new key most points behind
run_more tells content stage old new key most points behind point run holds =
    let last : last_or None (run.pushed ++ (under key point ∷ [])) ≡ Some (under key point) = last_or-append None run.pushed (under key point ∷ []) in
    record {
      pushed = run.pushed ++ (under key point ∷ []);
      holds = holds;
      few = (let few = run.few in let sum = length-append run.pushed (under key point ∷ []) in omega arith);
      may = subst (λ (l : Option KeyedPoint). MayFollow l key behind) (sym last) run.may.1;
      ends = inr (ap (option_map (λ (one : KeyedPoint). one.key)) last);
    }

-- a run with a point more, which goes on where the run ends
pub run_longer : (before : Option Row) (points : List Row) (point : Row) → Run before points → IfSome (last_or before points) (λ earlier. (earlier.0 <ℤ point.0) × (kind_of earlier.1 ≡ kind_of point.1)) → Run before (points ++ (point ∷ []))
run_longer before [] point run goes = (goes, tt)
run_longer before (first ∷ points) point run goes = (run.0, run_longer (Some first) points point run.1 goes)

-- the points are a run, each before this time and an integer
pub record IsCounter (points : List Row) (time : ℤ) : Type 0 where
  pub run : Run None points
  pub ends : IfSome (last_or None points) (λ last. (last.0 <ℤ time) × (kind_of last.1 ≡ Integer))

goes_on : (last : Option Row) (time : ℤ) (value : Value) → kind_of value ≡ Integer → IfSome last (λ one. (one.0 <ℤ time) × (kind_of one.1 ≡ Integer)) → IfSome last (λ earlier. (earlier.0 <ℤ time) × (kind_of earlier.1 ≡ kind_of value))
goes_on None time value kind ends = tt
goes_on (Some last) time value kind ends = (ends.0, ends.1 ∙ sym kind)

-- and so they are with an integer at this time, before every later one
pub longer : (old new : List Row) (time next : ℤ) (value : Value) → kind_of value ≡ Integer → new ≡ old ++ ((time, value) ∷ []) → Run None old → IfSome (last_or None old) (λ last. (last.0 <ℤ time) × (kind_of last.1 ≡ Integer)) → time <ℤ next → IsCounter new next
longer old new time next value kind is run ends later =
    let point : Row = (time, value) in
    subst (λ (points : List Row). IsCounter points next) (sym is) (record {
      run = run_longer None old point run (goes_on (last_or None old) time value kind ends);
      ends = subst (λ (last : Option Row). IfSome last (λ one. (one.0 <ℤ next) × (kind_of one.1 ≡ Integer))) (sym (last_or-append None old (point ∷ []))) (later, kind);
    })

-- the rest of a run is at its first point
pub at_first : {W : Type 0} (tells : Type 0) (content : W → List ℕ) (stage : W → Stage) (writer : TsmWriter W) (key : List ℕ) (most : ℕ) (points rest behind : List Row) (point : Row)
    → rest ≡ point ∷ behind → IsUnderway tells content stage writer key most points rest → IsUnderway tells content stage writer key most points (point ∷ behind)
at_first tells content stage writer key most points rest behind point is run = subst (λ (left : List Row). IsUnderway tells content stage writer key most points left) is run

-- the points of one key more
pub one_more : (number count : ℕ) → (number + 1) * count ≡ number * count + count
one_more number count = rw add-one (suc-mul number count)

-- where so many keys have room, a further one has it behind fewer of them
pub has_room : (number keys count : ℕ) → number < keys → keys * count ≤ 65535000 → number * count + count ≤ 65535000
has_room number keys count below room = subst (λ (n : ℕ). n ≤ 65535000) (one_more number count) (le_trans (mul-le-mul_right count (let next : number + 1 ≤ keys = omega (arith, below) in next)) room)

pub has_room_first : (keys count : ℕ) → 0 < keys → keys * count ≤ 65535000 → 0 + count ≤ 65535000
has_room_first keys count some room = subst (λ (n : ℕ). n + count ≤ 65535000) (zero-mul count) (has_room 0 keys count some room)
