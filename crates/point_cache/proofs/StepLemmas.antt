-- Steps over the places that a batch touches, and over its points.
use Rattle.std.proofs.Common.{◌≡◌, ◌≢◌, ℕ, zero, suc, ◌+◌, ◌<◌, ◌≤◌, ℤ, Bool, true, false, ◌&&◌, List, [], ◌∷◌, ◌++◌, length, drop, get_or, sum_by, Option, Some, None, slice_get, nat_eq, ◌⊎◌, inl, inr, refl, sym, ap, ◌∙◌, subst, ⊎_elim, arith, append-nil, append_assoc, length-append, if◌then◌else◌}
use Rattle.std.specs.List.{AllByRecursion}
use Rattle.std.specs.Cmp.Lexicographic.{pointwise}
use Rattle.std.specs.Ordering.{int_eq}
use Rattle.std.proofs.lemmas.List.Sums.{sum_by_push}
use Rattle.std.proofs.Math.Seq.{drop-cons}
use Rattle.indexmap.specs.Layout.{set_value_at}
use Rattle.tombstones.proofs.RangeLemmas.{all-append}
use Rattle.tsdb_types.specs.declared.point.Point.{Point}
use Rattle.tsdb_types.specs.declared.value.Value.{Value}
use Rattle.point_model.specs.Rows.{Row}
use Rattle.point_cache.specs.declared.key_points.KeyRun.{KeyRun}
use Rattle.point_cache.specs.Cached.{AreAscending, latest, is_at, value_after}
use Rattle.point_cache.specs.Staged.{Staged, Entry, Among, AreCovered, AreSettled, IsCovered, IsStaging, WillHave, lives, next_value, nexts, no_rows, plain, staged_at, next_count}
use Rattle.point_cache.specs.Steps.{AddsKey, ChangesAt, FindsKey, Grows, HasKey, Settles, SettlesAt, StagesAt, WillSet, commit_of, discard_of, point_key}
use Rattle.point_cache.proofs.EntryLemmas.{all-set, all_entries, all_entry, lives-set, nexts-set, push_last, set-last, set_entry, set_same, staged_at-add, staged_at-place, staged_at-set, sum-set}
use Rattle.point_cache.proofs.LatestLemmas.{latest_more}

-- ---- places

pub first_of : (xs : List ℕ) (i p : ℕ) → i < length xs → Among (drop i xs) p → (get_or xs i 0 ≡ p) ⊎ Among (drop (i + 1) xs) p
first_of xs i p h a =
    let cons = drop-cons xs i 0 h in
    let next : suc i ≡ i + 1 = omega arith in
    subst (λ (n : ℕ). (get_or xs i 0 ≡ p) ⊎ Among (drop n xs) p) next (subst (λ (l : List ℕ). Among l p) cons a)

pub among_at : (xs : List ℕ) (i : ℕ) → i < length xs → Among xs (get_or xs i 0)
among_at [] i h = absurd (omega arith)
among_at (x ∷ xs) zero h = inl refl
among_at (x ∷ xs) (suc i) h = inr (among_at xs i (omega arith))

pub none_left : (xs : List ℕ) (i p : ℕ) → length xs ≤ i → Among (drop i xs) p → ⊥
none_left [] zero p h a = a
none_left [] (suc i) p h a = a
none_left (x ∷ xs) zero p h a = absurd (omega arith)
none_left (x ∷ xs) (suc i) p h a = none_left xs i p (omega arith) a

-- a place is changed to one where nothing is staged, so it need not be visited any more
covered_changed : (f : Staged → Staged) → ((s : Staged) → (f s).next ≡ (f s).live) → (xs : List ℕ) (i : ℕ) (old new : List Entry) → i < length xs → ((e : Entry) → slice_get old (get_or xs i 0) ≡ Some e → AreAscending (f e.1).live)
    → ChangesAt f (get_or xs i 0) old new → AreCovered (drop i xs) old → AreCovered (drop (i + 1) xs) new
covered_changed f plain xs i old new h up (inl none) covered = λ p e at.
    let was = subst (λ (es : List Entry). slice_get es p ≡ Some e) none.1 at in
    let c = covered p e was in
    record {
      ascending = c.ascending;
      covered = ⊎_elim (λ (s : e.1.next ≡ e.1.live). inl s) (λ (a : Among (drop i xs) p).
          ⊎_elim (λ (s : get_or xs i 0 ≡ p). let nothing = none.0 in let some : None ≡ Some e = sym nothing ∙ ap (slice_get old) s ∙ was in absurd cc) (λ (b : Among (drop (i + 1) xs) p). inr b) (first_of xs i p h a)) c.covered;
    }
covered_changed f plain xs i old new h up (inr changed) covered = λ p e at.
    let entry = changed.0 in
    let now = subst (λ (es : List Entry). slice_get es p ≡ Some e) changed.2 at in
    ⊎_elim
    (λ (own : (get_or xs i 0 ≡ p) × (e ≡ (entry.0, f entry.1))). subst (λ (y : Entry). IsCovered (drop (i + 1) xs) p y) (sym own.1) (record { ascending = up entry changed.1; covered = inl (plain entry.1) }))
    (λ (was : slice_get old p ≡ Some e).
    let c = covered p e was in
    record {
      ascending = c.ascending;
      covered = ⊎_elim (λ (s : e.1.next ≡ e.1.live). inl s) (λ (a : Among (drop i xs) p).
          ⊎_elim (λ (s : get_or xs i 0 ≡ p).
          let here = subst (λ (n : ℕ). slice_get (set_value_at old (get_or xs i 0) (f entry.1)) n ≡ Some (entry.0, f entry.1)) s (set_same old (get_or xs i 0) entry (f entry.1) changed.1) in
          let both : Some e ≡ Some (entry.0, f entry.1) = sym now ∙ here in
          let same : e ≡ (entry.0, f entry.1) = cc in
          inl (subst (λ (y : Entry). y.1.next ≡ y.1.live) (sym same) (plain entry.1))) (λ (b : Among (drop (i + 1) xs) p). inr b) (first_of xs i p h a)) c.covered;
    })
    (set_entry old (get_or xs i 0) p (f entry.1) entry e changed.1 now)

pub covered_commit : (xs : List ℕ) (i : ℕ) (old new : List Entry) → i < length xs → AreSettled old → ChangesAt commit_of (get_or xs i 0) old new → AreCovered (drop i xs) old → AreCovered (drop (i + 1) xs) new
covered_commit xs i old new h settled changes covered =
    covered_changed commit_of (λ s. refl) xs i old new h (λ e at. all_entry (λ (y : Entry). AreAscending y.1.next) old (get_or xs i 0) e at settled) changes covered

pub covered_discard : (xs : List ℕ) (i : ℕ) (old new : List Entry) → i < length xs → ChangesAt discard_of (get_or xs i 0) old new → AreCovered (drop i xs) old → AreCovered (drop (i + 1) xs) new
covered_discard xs i old new h changes covered =
    covered_changed discard_of (λ s. refl) xs i old new h (λ e at. (covered (get_or xs i 0) e at).ascending) changes covered

pub nexts_commit : (p : ℕ) (old new : List Entry) → ChangesAt commit_of p old new → nexts new ≡ nexts old
nexts_commit p old new (inl none) = ap nexts none.1
nexts_commit p old new (inr changed) = ap nexts changed.2 ∙ nexts-set old p changed.0 (commit_of changed.0.1) changed.1 refl

pub settled_commit : (p : ℕ) (old new : List Entry) → ChangesAt commit_of p old new → AreSettled old → AreSettled new
settled_commit p old new (inl none) s = subst AreSettled (sym none.1) s
settled_commit p old new (inr changed) s =
    subst AreSettled (sym changed.2) (all-set (λ (y : Entry). AreAscending y.1.next) old p changed.0 (commit_of changed.0.1) changed.1 (all_entry (λ (y : Entry). AreAscending y.1.next) old p changed.0 changed.1 s) s)

pub lives_discard : (p : ℕ) (old new : List Entry) → ChangesAt discard_of p old new → lives new ≡ lives old
lives_discard p old new (inl none) = ap lives none.1
lives_discard p old new (inr changed) = ap lives changed.2 ∙ lives-set old p changed.0 (discard_of changed.0.1) changed.1 refl

-- nothing is staged any more
pub unstaged : (xs : List ℕ) (i : ℕ) (es : List Entry) → length xs ≤ i → AreCovered (drop i xs) es → AllByRecursion (λ e. e.1.next ≡ e.1.live) es
unstaged xs i es h covered = all_entries (λ (e : Entry). e.1.next ≡ e.1.live) es (λ p e at. ⊎_elim (λ (s : e.1.next ≡ e.1.live). s) (λ (a : Among (drop i xs) p). absurd (none_left xs i p h a)) (covered p e at).covered)

pub plain_nexts : (es : List Entry) → AllByRecursion (λ e. e.1.next ≡ e.1.live) es → plain (nexts es) ≡ es
plain_nexts [] a = refl
plain_nexts (x ∷ es) a = λ i. (x.0, record { live = a.0 i; next = x.1.next }) ∷ plain_nexts es a.1 i

pub plain_lives : (es : List Entry) → AllByRecursion (λ e. e.1.next ≡ e.1.live) es → plain (lives es) ≡ es
plain_lives [] a = refl
plain_lives (x ∷ es) a = λ i. (x.0, record { live = x.1.live; next = (sym a.0) i }) ∷ plain_lives es a.1 i

-- ---- settling

pub settles_none : (es : List Entry) → Settles es es
settles_none es = record { lives = refl; values = λ key t. refl; some = λ s. s; fewer = omega arith }

pub settles_then : (a b c : List Entry) → Settles a b → Settles b c → Settles a c
settles_then a b c first second = record {
  lives = second.lives ∙ first.lives;
  values = λ key t. second.values key t ∙ first.values key t;
  some = λ s. second.some (first.some s);
  fewer = let one = first.fewer in let two = second.fewer in omega (arith, one, two);
}

value_same : (b : Bool) (x y : Staged) (t : ℤ) → (b ≡ true → latest x.next t ≡ latest y.next t) → latest (if b then x else y).next t ≡ latest y.next t
value_same true x y t h = h refl
value_same false x y t h = refl

pub settles_at : (p : ℕ) (old new : List Entry) → SettlesAt p old new → Settles old new
settles_at p old new (inl same) = subst (λ (es : List Entry). Settles old es) (sym same) (settles_none old)
settles_at p old new (inr at) =
    let entry = at.0 in
    let w = at.1 in
    let run = at.3 in
    subst (λ (es : List Entry). Settles old es) (sym at.4) (record {
      lives = lives-set old p entry w at.2 run.live;
      values = λ key t.
          ap (λ (s : Staged). latest s.next t) (staged_at-set old p entry w at.2 at.5 key)
          ∙ value_same (pointwise nat_eq key entry.0) w (staged_at old key) t (λ is. run.values t ∙ ap (λ (s : Staged). latest s.next t) (sym (staged_at-place old p entry at.2 at.5 key is)));
      some = λ some. all-set (λ (y : Entry). y.1.next ≢ []) old p entry w at.2 (run.some (all_entry (λ (y : Entry). y.1.next ≢ []) old p entry at.2 some)) some;
      fewer = let sum = sum-set (λ (x : Staged). length x.next) old p entry w at.2 in let short = run.fewer in omega (arith, sum, short);
    })

pub staging_settles : (p : ℕ) (old new : List Entry) (touched : List ℕ) (a b : ℕ) → Among touched p → SettlesAt p old new → b ≡ sum_by (λ (e : Entry). length e.1.next) new → (total : ℕ) → IsStaging old touched a total → IsStaging new touched a b
staging_settles p old new touched a b among (inl same) counted total s = record {
  each = subst (AreCovered touched) (sym same) s.each;
  counted = s.counted ∙ ap (sum_by (λ (e : Entry). length e.1.live)) (sym same);
  next_counted = counted;
}
staging_settles p old new touched a b among (inr at) counted total s =
    let entry = at.0 in
    let w = at.1 in
    let run = at.3 in
    let c = s.each p entry at.2 in
    record {
      each = subst (AreCovered touched) (sym at.4) (λ q e h. ⊎_elim
          (λ (own : (p ≡ q) × (e ≡ (entry.0, w))). subst (λ (y : Entry). IsCovered touched q y) (sym own.1) (record { ascending = subst AreAscending (sym run.live) c.ascending; covered = inr (subst (Among touched) own.0 among) }))
          (λ (was : slice_get old q ≡ Some e). s.each q e was)
          (set_entry old p q w entry e at.2 h));
      counted =
          let set = sum-set (λ (x : Staged). length x.live) old p entry w at.2 in
          let same : length w.live ≡ length entry.1.live = ap length run.live in
          let was = s.counted in
          let is : a ≡ sum_by (λ (e : Entry). length e.1.live) (set_value_at old p w) = omega (arith, set, same, was) in
          is ∙ ap (sum_by (λ (e : Entry). length e.1.live)) (sym at.4);
      next_counted = counted;
    }

pub settled_more : (xs : List ℕ) (i : ℕ) (old new : List Entry) → i < length xs → SettlesAt (get_or xs i 0) old new → ((e : Entry) → slice_get new (get_or xs i 0) ≡ Some e → AreAscending e.1.next)
    → ((p : ℕ) (e : Entry) → slice_get old p ≡ Some e → AreAscending e.1.next ⊎ Among (drop i xs) p) → (p : ℕ) (e : Entry) → slice_get new p ≡ Some e → AreAscending e.1.next ⊎ Among (drop (i + 1) xs) p
settled_more xs i old new h settles own all p e at =
    let here = λ (s : get_or xs i 0 ≡ p). own e (subst (λ (n : ℕ). slice_get new n ≡ Some e) (sym s) at) in
    let rest = λ (was : slice_get old p ≡ Some e). ⊎_elim (λ (a : AreAscending e.1.next). inl a) (λ (a : Among (drop i xs) p). ⊎_elim (λ (s : get_or xs i 0 ≡ p). inl (here s)) (λ (b : Among (drop (i + 1) xs) p). inr b) (first_of xs i p h a)) (all p e was) in
    by settles here rest
  where
    by : SettlesAt (get_or xs i 0) old new → ((get_or xs i 0 ≡ p) → AreAscending e.1.next) → ((slice_get old p ≡ Some e) → AreAscending e.1.next ⊎ Among (drop (i + 1) xs) p) → AreAscending e.1.next ⊎ Among (drop (i + 1) xs) p
    by (inl same) here rest = rest (subst (λ (es : List Entry). slice_get es p ≡ Some e) same at)
    by (inr changed) here rest =
        ⊎_elim (λ (s : (get_or xs i 0 ≡ p) × (e ≡ (changed.0.0, changed.1))). inl (here s.0)) (λ (was : slice_get old p ≡ Some e). rest was)
        (set_entry old (get_or xs i 0) p changed.1 changed.0 e changed.2 (subst (λ (es : List Entry). slice_get es p ≡ Some e) changed.4 at))

-- ---- staging

pub grows_none : (es : List Entry) → Grows es es
grows_none es = record { more = []; lives = sym (append-nil (lives es)); empty = tt }

pub grows_then : (a b c : List Entry) → Grows a b → Grows b c → Grows a c
grows_then a b c first second = record {
  more = first.more ++ second.more;
  lives = second.lives ∙ ap (λ (l : List KeyRun). l ++ second.more) first.lives ∙ append_assoc (lives a) first.more second.more;
  empty = all-append (λ (r : KeyRun). r.points ≡ []) first.more second.more first.empty second.empty;
}

lives-append : (es more : List Entry) → lives (es ++ more) ≡ lives es ++ lives more
lives-append [] more = refl
lives-append (e ∷ es) more = ap (λ (l : List KeyRun). record { key = e.0; points = e.1.live } ∷ l) (lives-append es more)

pub grows_adds : (key : List ℕ) (old new : List Entry) → AddsKey key old new → Grows old new
grows_adds key old new (inl same) = subst (Grows old) (sym same) (grows_none old)
grows_adds key old new (inr more) = subst (Grows old) (sym more) (record { more = record { key = key; points = [] } ∷ []; lives = lives-append old ((key, no_rows) ∷ []); empty = (refl, tt) })

pub grows_put : (p : ℕ) (row : Row) (old new : List Entry) → StagesAt p row old new → Grows old new
grows_put p row old new put =
    record { more = []; lives = ap lives put.is ∙ lives-set old p put.entry _ put.was refl ∙ sym (append-nil (lives old)); empty = tt }

pub has_found : (key : List ℕ) (p : ℕ) (old new : List Entry) → FindsKey key p old new → HasKey new p key
has_found key p old new (inl there) = subst (λ (es : List Entry). HasKey es p key) (sym there.0) there.1
has_found key p old new (inr added) =
    (no_rows, ap (λ (es : List Entry). slice_get es p) added.0 ∙ ap (slice_get (old ++ (key, no_rows) ∷ [])) added.1 ∙ push_last old (key, no_rows))

value_after-push : (points : List Point) (point : Point) (key : List ℕ) (t : ℤ) (before : Option Value) → value_after (points ++ point ∷ []) key t before ≡ (if is_at key t point then Some point.value else value_after points key t before)
value_after-push [] point key t before = refl
value_after-push (x ∷ points) point key t before = value_after-push points point key t (if is_at key t x then Some x.value else before)

one_value : (b : Bool) (test : Bool) (v : Value) (x y : Staged) (t : ℤ) → (b ≡ true → latest x.next t ≡ (if test then Some v else latest y.next t)) → latest (if b then x else y).next t ≡ (if b && test then Some v else latest y.next t)
one_value true test v x y t h = h refl
one_value false test v x y t h = refl

-- the key at a place of which a point is staged
put_value : (p : ℕ) (point : Point) (old new : List Entry) → HasKey old p (point_key point) → StagesAt p (point.cell.time, point.value) old new → (key : List ℕ) (t : ℤ) → next_value new key t ≡ (if is_at key t point then Some point.value else next_value old key t)
put_value p point old new has put key t =
    let w : Staged = record { live = put.entry.1.live; next = put.entry.1.next ++ (point.cell.time, point.value) ∷ [] } in
    let both : Some put.entry ≡ Some (point_key point, has.0) = sym put.was ∙ has.1 in
    let entry : put.entry ≡ (point_key point, has.0) = cc in
    let own : put.entry.0 ≡ point_key point = ap (λ (e : Entry). e.0) entry in
    ap (λ (es : List Entry). next_value es key t) put.is ∙ ap (λ (s : Staged). latest s.next t) (staged_at-set old p put.entry w put.was put.apart key)
    ∙ ap (λ (k : List ℕ). latest (if pointwise nat_eq key k then w else staged_at old key).next t) own
    ∙ one_value (pointwise nat_eq key (point_key point)) (int_eq t point.cell.time) point.value w (staged_at old key) t
    (λ is.
    latest_more put.entry.1.next (point.cell.time, point.value) t
    ∙ ap (λ (s : Staged). if int_eq t point.cell.time then Some point.value else latest s.next t) (sym (staged_at-place old p put.entry put.was put.apart key (ap (pointwise nat_eq key) own ∙ is))))

more_than : (xs : List Row) (x : Row) → xs ++ x ∷ [] ≢ []
more_than [] x = λ e. absurd cc
more_than (y ∷ xs) x = λ e. absurd cc

put_some : (p : ℕ) (key : List ℕ) (row : Row) (old mid new : List Entry) → FindsKey key p old mid → StagesAt p row mid new → WillHave old → WillHave new
put_some p key row old mid new (inl there) put some =
    subst WillHave (sym put.is) (all-set (λ (y : Entry). y.1.next ≢ []) mid p put.entry _ put.was (more_than put.entry.1.next row) (subst WillHave (sym there.0) some))
put_some p key row old mid new (inr added) put some =
    let w : Staged = record { live = put.entry.1.live; next = put.entry.1.next ++ row ∷ [] } in
    let is : new ≡ old ++ (key, w) ∷ [] = put.is ∙ ap (λ (es : List Entry). set_value_at es p w) added.0 ∙ ap (λ (n : ℕ). set_value_at (old ++ (key, no_rows) ∷ []) n w) added.1 ∙ set-last old (key, no_rows) w in
    subst WillHave (sym is) (all-append (λ (y : Entry). y.1.next ≢ []) old ((key, w) ∷ []) some (more_than put.entry.1.next row, tt))

found_value : (key : List ℕ) (p : ℕ) (old mid : List Entry) → FindsKey key p old mid → (k : List ℕ) (t : ℤ) → next_value mid k t ≡ next_value old k t
found_value key p old mid (inl there) k t = ap (λ (es : List Entry). next_value es k t) there.0
found_value key p old mid (inr added) k t = ap (λ (es : List Entry). next_value es k t) added.0 ∙ ap (λ (s : Staged). latest s.next t) (staged_at-add old key k)

found_count : (key : List ℕ) (p : ℕ) (old mid : List Entry) → FindsKey key p old mid → next_count mid ≡ next_count old
found_count key p old mid (inl there) = ap next_count there.0
found_count key p old mid (inr added) =
    let more = sum_by_push (λ (x : Entry). length x.1.next) old (key, no_rows) in
    let is : next_count (old ++ (key, no_rows) ∷ []) ≡ next_count old = omega (arith, more) in
    ap next_count added.0 ∙ is

put_count : (p : ℕ) (row : Row) (old new : List Entry) → StagesAt p row old new → next_count new ≡ next_count old + 1
put_count p row old new put =
    let w : Staged = record { live = put.entry.1.live; next = put.entry.1.next ++ row ∷ [] } in
    let sum = sum-set (λ (x : Staged). length x.next) old p put.entry w put.was in
    let more = length-append put.entry.1.next (row ∷ []) in
    let is : next_count (set_value_at old p w) ≡ next_count old + 1 = omega (arith, sum, more) in
    ap next_count put.is ∙ is

pub sets_none : (es : List Entry) → WillSet [] es es
sets_none es = record { values = λ key t. refl; some = λ s. s; counted = omega arith }

-- one point more is set
pub sets_more : (points : List Point) (point : Point) (p : ℕ) (first old mid new : List Entry) → FindsKey (point_key point) p old mid → StagesAt p (point.cell.time, point.value) mid new → WillSet points first old → WillSet (points ++ point ∷ []) first new
sets_more points point p first old mid new found put sets = record {
  values = λ key t.
      put_value p point mid new (has_found (point_key point) p old mid found) put key t
      ∙ ap (λ (v : Option Value). if is_at key t point then Some point.value else v) (found_value (point_key point) p old mid found key t ∙ sets.values key t)
      ∙ sym (value_after-push points point key t (next_value first key t));
  some = λ some. put_some p (point_key point) (point.cell.time, point.value) old mid new found put (sets.some some);
  counted =
      let one = put_count p (point.cell.time, point.value) mid new put in
      let two = found_count (point_key point) p old mid found in
      let was = sets.counted in
      let long = length-append points (point ∷ []) in
      omega (arith, one, two, was, long);
}

pub has_put : (p : ℕ) (key : List ℕ) (row : Row) (old new : List Entry) → HasKey old p key → StagesAt p row old new → HasKey new p key
has_put p key row old new has put =
    let w : Staged = record { live = put.entry.1.live; next = put.entry.1.next ++ row ∷ [] } in
    let both : Some put.entry ≡ Some (key, has.0) = sym put.was ∙ has.1 in
    let entry : put.entry ≡ (key, has.0) = cc in
    (w, ap (λ (es : List Entry). slice_get es p) put.is ∙ set_same old p put.entry w put.was ∙ ap (λ (e : Entry). Some (e.0, w)) entry)

pub some_item : {X : Type 0} (xs : List X) (i : ℕ) → i < length xs → (x : X) × (slice_get xs i ≡ Some x)
some_item [] i h = absurd (omega arith)
some_item (x ∷ xs) zero h = (x, refl)
some_item (x ∷ xs) (suc i) h = some_item xs i (omega arith)
