-- Runs of which nothing is staged.
use Rattle.std.proofs.Common.{◌≡◌, ℕ, zero, suc, Bool, true, false, List, [], ◌∷◌, ◌++◌, length, take, drop, sum_by, Some, slice_get, nat_eq, inl, refl, sym, ap, ◌∙◌, subst, arith, if◌then◌else◌}
use Rattle.std.specs.List.{AllByRecursion}
use Rattle.std.specs.Cmp.Lexicographic.{pointwise}
use Rattle.std.proofs.lemmas.List.{take-append-drop}
use Rattle.std.proofs.lemmas.List.Sums.{sum_by-cons, sum_by-take-drop}
use Rattle.tombstones.proofs.RangeLemmas.{all-front}
use Rattle.point_model.specs.Rows.{Row}
use Rattle.point_cache.specs.declared.key_points.KeyRun.{KeyRun}
use Rattle.point_cache.specs.Cached.{AreAscending, IsRun, count, points_at}
use Rattle.point_cache.specs.Staged.{Entry, Slot, AreCovered, AreSettled, HavePoints, IsStaging, IsUnstaged, WillHave, entries_of, lives, nexts, plain, staged_at}
use Rattle.point_cache.proofs.EntryLemmas.{all_entries}
use Rattle.point_cache.proofs.StepLemmas.{plain_lives}

plain_at : (rs : List KeyRun) (p : ℕ) (e : Entry) → slice_get (plain rs) p ≡ Some e → AllByRecursion (λ r. AreAscending r.points) rs → AreAscending e.1.live × (e.1.next ≡ e.1.live)
plain_at [] p e h a = absurd cc
plain_at (r ∷ rs) zero e h a =
    let own : (r.key, record { live = r.points; next = r.points }) ≡ e = cc in
    subst (λ (y : Entry). AreAscending y.1.live × (y.1.next ≡ y.1.live)) own (a.0, refl)
plain_at (r ∷ rs) (suc p) e h a = plain_at rs p e h a.1

count_plain : (rs : List KeyRun) → sum_by (λ (e : Entry). length e.1.live) (plain rs) ≡ count rs
count_plain [] = refl
count_plain (r ∷ rs) =
    let rest = count_plain rs in
    let one = sum_by-cons (λ (e : Entry). length e.1.live) (r.key, record { live = r.points; next = r.points }) (plain rs) in
    let two = sum_by-cons (λ (x : KeyRun). length x.points) r rs in
    omega (arith, one, two)

pub count_plain_next : (rs : List KeyRun) → sum_by (λ (e : Entry). length e.1.next) (plain rs) ≡ count rs
count_plain_next [] = refl
count_plain_next (r ∷ rs) =
    let rest = count_plain_next rs in
    let one = sum_by-cons (λ (e : Entry). length e.1.next) (r.key, record { live = r.points; next = r.points }) (plain rs) in
    let two = sum_by-cons (λ (x : KeyRun). length x.points) r rs in
    omega (arith, one, two)

pub count_lives : (es : List Entry) → count (lives es) ≡ sum_by (λ (e : Entry). length e.1.live) es
count_lives [] = refl
count_lives (e ∷ es) =
    let rest = count_lives es in
    let one = sum_by-cons (λ (x : KeyRun). length x.points) (record { key = e.0; points = e.1.live }) (lives es) in
    let two = sum_by-cons (λ (y : Entry). length y.1.live) e es in
    omega (arith, one, two)

pub count_nexts : (es : List Entry) → count (nexts es) ≡ sum_by (λ (e : Entry). length e.1.next) es
count_nexts [] = refl
count_nexts (e ∷ es) =
    let rest = count_nexts es in
    let one = sum_by-cons (λ (x : KeyRun). length x.points) (record { key = e.0; points = e.1.next }) (nexts es) in
    let two = sum_by-cons (λ (y : Entry). length y.1.next) e es in
    omega (arith, one, two)

count_empty : (rs : List KeyRun) → AllByRecursion (λ r. r.points ≡ []) rs → count rs ≡ 0
count_empty [] a = refl
count_empty (r ∷ rs) a =
    let rest = count_empty rs a.1 in
    let one = sum_by-cons (λ (x : KeyRun). length x.points) r rs in
    let none : length r.points ≡ 0 = ap length a.0 in
    omega (arith, one)

pub count_front : (rs : List KeyRun) (k : ℕ) → AllByRecursion (λ r. r.points ≡ []) (drop k rs) → count (take k rs) ≡ count rs
count_front rs k a =
    let both = sum_by-take-drop (λ (x : KeyRun). length x.points) rs k in
    let none = count_empty (drop k rs) a in
    omega (arith, both, none)

pub ascending_nexts : (es : List Entry) → AreSettled es → AllByRecursion (λ r. AreAscending r.points) (nexts es)
ascending_nexts [] a = tt
ascending_nexts (e ∷ es) a = (a.0, ascending_nexts es a.1)

lives_each : (es : List Entry) → AllByRecursion (λ e. AreAscending e.1.live) es → AllByRecursion (λ r. AreAscending r.points) (lives es)
lives_each [] a = tt
lives_each (e ∷ es) a = (a.0, lives_each es a.1)

pub ascending_lives : (es : List Entry) (touched : List ℕ) → AreCovered touched es → AllByRecursion (λ r. AreAscending r.points) (lives es)
ascending_lives es touched covered = lives_each es (all_entries (λ (e : Entry). AreAscending e.1.live) es (λ p e h. (covered p e h).ascending))

pub all_take : (P : KeyRun → Type 0) (rs : List KeyRun) (k : ℕ) → AllByRecursion P rs → AllByRecursion P (take k rs)
all_take P rs k a = all-front P (take k rs) (drop k rs) (subst (AllByRecursion P) (sym (take-append-drop k rs)) a)

pub ascending_front : (rs : List KeyRun) (k : ℕ) → AllByRecursion (λ r. AreAscending r.points) rs → AllByRecursion (λ r. AreAscending r.points) (take k rs)
ascending_front rs k a = all_take (λ (r : KeyRun). AreAscending r.points) rs k a

pub staging_plain : (rs : List KeyRun) (touched : List ℕ) (n : ℕ) → AllByRecursion (λ r. AreAscending r.points) rs → n ≡ count rs → IsStaging (plain rs) touched n n
staging_plain rs touched n a counted = record {
  each = λ p e h. let is = plain_at rs p e h a in record { ascending = is.0; covered = inl is.1 };
  counted = counted ∙ sym (count_plain rs);
  next_counted = counted ∙ sym (count_plain_next rs);
}

pub entries_of-take : (slots : List Slot) (k : ℕ) → entries_of (take k slots) ≡ take k (entries_of slots)
entries_of-take [] zero = refl
entries_of-take [] (suc k) = refl
entries_of-take (s ∷ slots) zero = refl
entries_of-take (s ∷ slots) (suc k) = ap (λ (es : List Entry). (s.0.items, s.1) ∷ es) (entries_of-take slots k)

pub plain-take : (rs : List KeyRun) (k : ℕ) → take k (plain rs) ≡ plain (take k rs)
plain-take [] zero = refl
plain-take [] (suc k) = refl
plain-take (r ∷ rs) zero = refl
plain-take (r ∷ rs) (suc k) = ap (λ (es : List Entry). (r.key, record { live = r.points; next = r.points }) ∷ es) (plain-take rs k)

pub lives_plain : (rs : List KeyRun) → lives (plain rs) ≡ rs
lives_plain [] = refl
lives_plain (r ∷ rs) = ap (λ (l : List KeyRun). r ∷ l) (lives_plain rs)

pub nexts_plain : (rs : List KeyRun) → nexts (plain rs) ≡ rs
nexts_plain [] = refl
nexts_plain (r ∷ rs) = ap (λ (l : List KeyRun). r ∷ l) (nexts_plain rs)

-- what is found of a key
pub points_lives : (es : List Entry) (key : List ℕ) → points_at (lives es) key ≡ (staged_at es key).live
points_lives [] key = refl
points_lives (e ∷ es) key = by (pointwise nat_eq key e.0) (points_lives es key)
  where
    by : (b : Bool) → points_at (lives es) key ≡ (staged_at es key).live → (if b then e.1.live else points_at (lives es) key) ≡ (if b then e.1 else staged_at es key).live
    by true rest = refl
    by false rest = rest

pub points_nexts : (es : List Entry) (key : List ℕ) → points_at (nexts es) key ≡ (staged_at es key).next
points_nexts [] key = refl
points_nexts (e ∷ es) key = by (pointwise nat_eq key e.0) (points_nexts es key)
  where
    by : (b : Bool) → points_at (nexts es) key ≡ (staged_at es key).next → (if b then e.1.next else points_at (nexts es) key) ≡ (if b then e.1 else staged_at es key).next
    by true rest = refl
    by false rest = rest

pub unstaged_plain : (rs : List KeyRun) → IsUnstaged (plain rs)
unstaged_plain [] = tt
unstaged_plain (r ∷ rs) = (refl, unstaged_plain rs)

-- entries of which nothing is staged
pub staging_unstaged : (es : List Entry) (touched : List ℕ) (n : ℕ) → IsUnstaged es → AllByRecursion (λ e. AreAscending e.1.live) es → n ≡ sum_by (λ (e : Entry). length e.1.live) es → IsStaging es touched n n
staging_unstaged es touched n un up counted =
    subst (λ (l : List Entry). IsStaging l touched n n) (plain_lives es un)
    (staging_plain (lives es) touched n (lives_each es up) (counted ∙ sym (count_lives es)))

pub up_covered : (es : List Entry) (touched : List ℕ) → AreCovered touched es → AllByRecursion (λ e. AreAscending e.1.live) es
up_covered es touched covered = all_entries (λ (e : Entry). AreAscending e.1.live) es (λ p e h. (covered p e h).ascending)

pub have_of : (es : List Entry) → AllByRecursion IsRun (lives es) → HavePoints es
have_of [] a = tt
have_of (e ∷ es) a = (a.0.some, have_of es a.1)

pub up_of : (es : List Entry) → AllByRecursion IsRun (lives es) → AllByRecursion (λ e. AreAscending e.1.live) es
up_of [] a = tt
up_of (e ∷ es) a = (a.0.ascending, up_of es a.1)

pub runs_of : (es : List Entry) → HavePoints es → AllByRecursion (λ e. AreAscending e.1.live) es → AllByRecursion IsRun (lives es)
runs_of [] a b = tt
runs_of (e ∷ es) a b = (record { some = a.0; ascending = b.0 }, runs_of es a.1 b.1)

pub runs_next : (es : List Entry) → WillHave es → AreSettled es → AllByRecursion IsRun (nexts es)
runs_next [] a b = tt
runs_next (e ∷ es) a b = (record { some = a.0; ascending = b.0 }, runs_next es a.1 b.1)

pub will_have : (rs : List KeyRun) → AllByRecursion IsRun rs → WillHave (plain rs)
will_have [] a = tt
will_have (r ∷ rs) a = (a.0.some, will_have rs a.1)

-- keys without points add nothing
pub points_behind : (rs more : List KeyRun) (key : List ℕ) → AllByRecursion (λ r. r.points ≡ []) more → points_at (rs ++ more) key ≡ points_at rs key
points_behind [] [] key a = refl
points_behind [] (r ∷ more) key a = by (pointwise nat_eq key r.key) (points_behind [] more key a.1)
  where
    by : (b : Bool) → points_at more key ≡ [] → (if b then r.points else points_at more key) ≡ []
    by true rest = a.0
    by false rest = rest
points_behind (r ∷ rs) more key a = ap (λ (rows : List Row). if pointwise nat_eq key r.key then r.points else rows) (points_behind rs more key a)

pub points_front : (rs : List KeyRun) (k : ℕ) (key : List ℕ) → AllByRecursion (λ r. r.points ≡ []) (drop k rs) → points_at (take k rs) key ≡ points_at rs key
points_front rs k key a = sym (points_behind (take k rs) (drop k rs) key a) ∙ ap (λ (l : List KeyRun). points_at l key) (take-append-drop k rs)

pub next_plain : (rs : List KeyRun) (key : List ℕ) → (staged_at (plain rs) key).next ≡ points_at rs key
next_plain rs key = sym (points_nexts (plain rs) key) ∙ ap (λ (l : List KeyRun). points_at l key) (nexts_plain rs)

pub length_plain : (rs : List KeyRun) → length (plain rs) ≡ length rs
length_plain [] = refl
length_plain (r ∷ rs) = ap suc (length_plain rs)

pub length_lives : (es : List Entry) → length (lives es) ≡ length es
length_lives [] = refl
length_lives (e ∷ es) = ap suc (length_lives es)
