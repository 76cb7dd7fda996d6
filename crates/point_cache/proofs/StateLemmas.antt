-- The fields of a cache behind each of its calls.
use Rattle.std.proofs.Common.{◌≡◌, ◌≢◌, ℕ, zero, suc, false, nat_eq, ◌≤◌, List, [], ◌∷◌, ◌++◌, length, take, drop, Option, Some, None, length-append, sym, ap, ◌∙◌, subst, arith}
use Rattle.std.specs.List.{AllByRecursion}
use Rattle.std.specs.Cmp.Lexicographic.{pointwise}
use Rattle.std.proofs.lemmas.Bool.{false≢true}
use Rattle.std.proofs.lemmas.List.{length-take-le}
use Rattle.tsdb_types.specs.declared.point.Point.{Point}
use Rattle.point_cache.specs.declared.key_points.KeyRun.{KeyRun}
use Rattle.point_cache.specs.Cache.{IsCache, HasRoom, HasSnapshot}
use Rattle.point_cache.specs.Cached.{AreApart, IsRun}
use Rattle.point_cache.specs.Staged.{Entry, KeysApart, Staging, lives, plain}
use Rattle.point_cache.specs.Steps.{Grows}
use Rattle.point_cache.proofs.CacheLemmas.{all_front, back_is, front_is, none_back}
use Rattle.point_cache.proofs.EntryLemmas.{key_same}
use Rattle.point_cache.proofs.PlainLemmas.{all_take, length_lives, length_plain, lives_plain}

-- runs of which nothing is staged
abbrev pub Plainly : Staging → List KeyRun → Type 0
Plainly runs rows = runs ≡ record { entries = plain rows; touched = [] }

pub plain_rows : (runs : Staging) (rows : List KeyRun) → Plainly runs rows → lives runs.entries ≡ rows
plain_rows runs rows e = ap (λ (s : Staging). lives s.entries) e ∙ lives_plain rows

pub plain_own : (runs : Staging) (rows : List KeyRun) → Plainly runs rows → Plainly runs (lives runs.entries)
plain_own runs rows e = e ∙ ap (λ (l : List KeyRun). record { entries = plain l; touched = [] }) (sym (plain_rows runs rows e))

pub front_long : (es : List Entry) (k : ℕ) → k ≤ length es → k ≡ length (take k (lives es))
front_long es k h = let long = length_lives es in sym (length-take-le k (lives es) (omega (arith, long)))

pub front_plain : (runs : Staging) (rows : List KeyRun) (k : ℕ) → Plainly runs rows → k ≡ length rows → take k (lives runs.entries) ≡ rows
front_plain runs rows k e long = ap (take k) (plain_rows runs rows e) ∙ all_front rows k long

pub cache_plain : (runs : Staging) (rows : List KeyRun) (k points : ℕ) (frozen : Option (List KeyRun)) → Plainly runs rows → AllByRecursion IsRun rows → k ≡ length rows → HasSnapshot points frozen → IsCache runs k None points frozen
cache_plain runs rows k points frozen e each long snapshot =
    let front = front_plain runs rows k e long in
    let entries : runs.entries ≡ plain rows = ap (λ (s : Staging). s.entries) e in
    record {
      within = let a = ap length entries in let b = length_plain rows in omega (arith, a, b, long);
      each = subst (AllByRecursion IsRun) (sym front) each;
      empty = subst (AllByRecursion (λ run. run.points ≡ [])) (sym (ap (drop k) (plain_rows runs rows e) ∙ none_back rows k long)) tt;
      room = entries ∙ ap plain (sym front);
      snapshot = snapshot;
    }

pub front_grown : (old new : Staging) (rows : List KeyRun) (k : ℕ) → Plainly old rows → k ≡ length rows → Grows old.entries new.entries → take k (lives new.entries) ≡ rows
front_grown old new rows k e long grows = ap (take k) (grows.lives ∙ ap (λ (l : List KeyRun). l ++ grows.more) (plain_rows old rows e)) ∙ front_is rows grows.more k long

pub empty_grown : (old new : Staging) (rows : List KeyRun) (k : ℕ) → Plainly old rows → k ≡ length rows → Grows old.entries new.entries → AllByRecursion (λ run. run.points ≡ []) (drop k (lives new.entries))
empty_grown old new rows k e long grows =
    subst (AllByRecursion (λ run. run.points ≡ [])) (sym (ap (drop k) (grows.lives ∙ ap (λ (l : List KeyRun). l ++ grows.more) (plain_rows old rows e)) ∙ back_is rows grows.more k long)) grows.empty

pub cache_grown : (old new : Staging) (rows : List KeyRun) (k points : ℕ) (batch : List Point) (frozen : Option (List KeyRun)) → Plainly old rows → AllByRecursion IsRun rows → k ≡ length rows → Grows old.entries new.entries → HasRoom batch new.entries → HasSnapshot points frozen
    → IsCache new k (Some batch) points frozen
cache_grown old new rows k points batch frozen e each long grows room snapshot = record {
  within =
      let a = ap length grows.lives in
      let b = length-append (lives old.entries) grows.more in
      let c = ap length (plain_rows old rows e) in
      let d = length_lives new.entries in
      omega (arith, a, b, c, d, long);
  each = subst (AllByRecursion IsRun) (sym (front_grown old new rows k e long grows)) each;
  empty = empty_grown old new rows k e long grows;
  room = room;
  snapshot = snapshot;
}

-- ---- no key stands twice

apart_key : (key : List ℕ) (es : List Entry) → AllByRecursion (λ other. pointwise nat_eq key other.0 ≡ false) es → AllByRecursion (λ other. key ≢ other.key) (lives es)
apart_key key [] a = tt
apart_key key (e ∷ es) a = ((λ same. false≢true (sym a.0 ∙ key_same key e.0 same)), apart_key key es a.1)

pub apart_lives : (es : List Entry) → KeysApart es → AreApart (lives es)
apart_lives [] a = tt
apart_lives (e ∷ es) a = (apart_key e.0 es a.0, apart_lives es a.1)

pub apart_front : (rs : List KeyRun) (k : ℕ) → AreApart rs → AreApart (take k rs)
apart_front [] zero a = tt
apart_front [] (suc k) a = tt
apart_front (r ∷ rs) zero a = tt
apart_front (r ∷ rs) (suc k) a = (all_take (λ (o : KeyRun). r.key ≢ o.key) rs k a.0, apart_front rs k a.1)
