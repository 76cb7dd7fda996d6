-- A run of points under one key, as the tests push it.
use Rattle.std.proofs.Common.{◌≡◌, ◌+◌, ◌*◌, ◌<◌, ◌≤◌, ◌⊎◌, ⊎_elim, ℕ, ℤ, pos, ◌<ℤ◌, List, [], ◌∷◌, ◌++◌, length, Option, None, Some, IfSome, inl, inr, refl, sym, ap, ◌∙◌, subst, arith, rules, w64, to_z, of_z}
use Rattle.std.specs.List.{last_or}
use Rattle.std.specs.Option.{option_map}
use Rattle.std.specs.Ordering.{nat_cmp}
use Rattle.std.specs.Str.{bytes_eq}
use Rattle.std.specs.declared.cmp.Ordering.TheVariants.{Less}
use Rattle.std.specs.Cmp.Lexicographic.{slice_cmp}
use Rattle.std.proofs.lemmas.Int.{ints, to_z_pos}
use Rattle.std.proofs.lemmas.List.{length-append}
use Rattle.std.proofs.lemmas.List.Sums.{count_by-le-length}
use Rattle.shard_disk.specs.Stage.{Stage}
use Rattle.tsdb_types.specs.Keys.{MarkAt}
use Rattle.tsdb_types.specs.Values.{kind_of}
use Rattle.tsdb_types.specs.declared.value.Kind.TheVariants.{Integer}
use Rattle.tsdb_types.specs.declared.value.Value.TheVariants.{Int}
use Rattle.tsm_format.specs.Rows.{IsAbove}
use Rattle.tsm_file.specs.Written.{KeyedPoint}
use Rattle.tsm_file.specs.Writing.{Follows, Holds, MayCome}
use Rattle.tsm_file.specs.Tried.{HasPushed}
use Rattle.tsm_file.specs.declared.writer.TsmWriter.{TsmWriter}
use Rattle.tsm_file.proofs.WrittenLemmas.{last_or-append}

-- a time as the code makes it from a small number
pub time_of : (n m : ℕ) (z time : ℤ) → n < 65536 → time ≡ to_z w64 (of_z w64 z) → z ≡ pos (10 * m + 10) → m ≡ n → time ≡ pos (10 * n + 10)
time_of n m z time small is same count =
    is ∙ ap (λ (k : ℤ). to_z w64 (of_z w64 k)) (same ∙ ap (λ (k : ℕ). pos (10 * k + 10)) count) ∙ to_z_pos w64 (10 * n + 10) (omega arith)

-- the last point has this key and stands at so many tens
pub record EndsAs (key : List ℕ) (n : ℕ) (last : Option KeyedPoint) : Type 0 where
  pub point : KeyedPoint
  pub is : last ≡ Some point
  pub same : point.key ≡ key
  pub time : point.time ≡ pos (10 * n)
  pub kind : kind_of point.value ≡ Integer

-- behind at most so many points stand n of this key
pub record IsRun {W : Type 0} (tells : Type 0) (content : W → List ℕ) (stage : W → Stage) (writer : TsmWriter W) (key : List ℕ) (most n : ℕ) (last : Option (List ℕ)) : Type 0 where
  pub pushed : List KeyedPoint
  pub holds : Holds tells content stage writer pushed
  pub few : length pushed ≤ most + n
  pub ends : ((n ≡ 0) × (option_map (λ point. point.key) (last_or None pushed) ≡ last)) ⊎ ((0 < n) × EndsAs key n (last_or None pushed))

pub run_begins : {W : Type 0} (tells : Type 0) (content : W → List ℕ) (stage : W → Stage) (writer : TsmWriter W) (key : List ℕ) (most : ℕ) (last : Option (List ℕ)) → HasPushed tells content stage writer most last → IsRun tells content stage writer key most 0 last
run_begins tells content stage writer key most last has = record { pushed = has.pushed; holds = has.holds; few = (let few = has.few in omega arith); ends = inl (refl, has.ends) }

key_above : (o : Option KeyedPoint) (key : List ℕ) (last : Option (List ℕ)) (point : KeyedPoint) → option_map (λ p. p.key) o ≡ last → IsAbove last key → point.key ≡ key → IfSome o (λ before. Follows before point)
key_above None key last point is above same = tt
key_above (Some before) key last point is above same =
    inl (subst (λ (k : List ℕ). slice_cmp nat_cmp before.key k ≡ Less) (sym same) (subst (λ (l : Option (List ℕ)). IsAbove l key) (sym is) above))

later_ten : (n : ℕ) (before time : ℤ) → before ≡ pos (10 * n) → time ≡ pos (10 * n + 10) → before <ℤ time
later_ten n before time a b = subst (λ (t : ℤ). t <ℤ time) (sym a) (subst (λ (t : ℤ). pos (10 * n) <ℤ t) (sym b) (let h : 10 * n < 10 * n + 10 = omega arith in search (arith, rules, ints)))

ended_before : (o : Option KeyedPoint) (key : List ℕ) (n : ℕ) (time : ℤ) → time ≡ pos (10 * n + 10) → EndsAs key n o → IfSome o (λ before. Follows before (record { key = key; time = time; value = Int (pos 1) }))
ended_before o key n time is ends =
    subst (λ (l : Option KeyedPoint). IfSome l (λ before. Follows before (record { key = key; time = time; value = Int (pos 1) }))) (sym ends.is)
    (inr (record { key = ends.same; later = later_ten n ends.point.time time ends.time is; alike = ends.kind }))

pub run_may : {W : Type 0} (tells : Type 0) (content : W → List ℕ) (stage : W → Stage) (writer : TsmWriter W) (key : List ℕ) (most n : ℕ) (last : Option (List ℕ)) (time : ℤ)
    → (run : IsRun tells content stage writer key most n last) → IsAbove last key → length key ≤ 65535 → ((at : ℕ) × MarkAt key at) → most < 1000000 → n < 65536 → time ≡ pos (10 * n + 10)
    → MayCome run.pushed (record { key = key; time = time; value = Int (pos 1) })
run_may tells content stage writer key most n last time run above fits mark bound short is = record {
  follows = ⊎_elim
      (λ (first : (n ≡ 0) × (option_map (λ point. point.key) (last_or None run.pushed) ≡ last)). key_above (last_or None run.pushed) key last (record { key = key; time = time; value = Int (pos 1) }) first.1 above refl)
      (λ (later : (0 < n) × EndsAs key n (last_or None run.pushed)). ended_before (last_or None run.pushed) key n time is later.1)
      run.ends;
  fits = fits;
  mark = mark;
  few = (let few = run.few in omega (arith, count_by-le-length (λ (point : KeyedPoint). bytes_eq point.key key) run.pushed));
}

pub run_more : {W : Type 0} (tells : Type 0) (content : W → List ℕ) (stage : W → Stage) (old new : TsmWriter W) (key : List ℕ) (most n : ℕ) (last : Option (List ℕ)) (time : ℤ)
    → (run : IsRun tells content stage old key most n last) → time ≡ pos (10 * n + 10) → Holds tells content stage new (run.pushed ++ (record { key = key; time = time; value = Int (pos 1) } ∷ []))
    → IsRun tells content stage new key most (n + 1) last
run_more tells content stage old new key most n last time run is holds =
    let point : KeyedPoint = record { key = key; time = time; value = Int (pos 1) } in
    record {
      pushed = run.pushed ++ (point ∷ []);
      holds = holds;
      few = (let few = run.few in let sum = length-append run.pushed (point ∷ []) in omega arith);
      ends = inr (omega arith, record { point = point; is = last_or-append None run.pushed (point ∷ []); same = refl; time = is ∙ ap pos (omega arith); kind = refl });
    }

pub run_ends : {W : Type 0} (tells : Type 0) (content : W → List ℕ) (stage : W → Stage) (writer : TsmWriter W) (key : List ℕ) (most n : ℕ) (last : Option (List ℕ)) → IsRun tells content stage writer key most n last → 0 < n → HasPushed tells content stage writer (most + n) (Some key)
run_ends tells content stage writer key most n last run some = record {
  pushed = run.pushed;
  holds = run.holds;
  few = run.few;
  ends = ⊎_elim
      (λ (first : (n ≡ 0) × (option_map (λ point. point.key) (last_or None run.pushed) ≡ last)). absurd (omega (arith, first.0)))
      (λ (later : (0 < n) × EndsAs key n (last_or None run.pushed)). ap (option_map (λ (point : KeyedPoint). point.key)) later.1.is ∙ ap (λ (k : List ℕ). Some k) later.1.same)
      run.ends;
}

-- a writer of which this is the last key has points
pub has_some : {W : Type 0} (tells : Type 0) (content : W → List ℕ) (stage : W → Stage) (writer : TsmWriter W) (most : ℕ) (key : List ℕ) → (has : HasPushed tells content stage writer most (Some key)) → has.pushed ≡ [] → ⊥
has_some tells content stage writer most key has none =
    let no : None ≡ Some key = ap (λ (l : List KeyedPoint). option_map (λ (point : KeyedPoint). point.key) (last_or None l)) (sym none) ∙ has.ends in
    absurd cc
