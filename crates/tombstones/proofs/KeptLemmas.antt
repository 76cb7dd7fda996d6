-- What rows hide: at a key that is found, at one that isn't, and after a change.
use Rattle.std.proofs.Common.{◌≡◌, ◌≢◌, ℕ, ℤ, Bool, true, false, cond, List, [], ◌∷◌, ◌++◌, Option, Some, None, ◌⊎◌, inl, inr, refl, sym, ap, ◌∙◌, subst, Vec, Global, ◌<◌, ◌^◌, length, vec_len, arith, Result, Ok, Err, OnOk, OnErr}
use Rattle.std.specs.List.{AllByRecursion, AllZip}
use Rattle.std.specs.List.Sorted.{IsStrictlySortedBy}
use Rattle.std.specs.Ordering.{nat_cmp, is_eq, match_ordering}
use Rattle.std.specs.declared.cmp.Ordering.{Ordering}
use Rattle.std.specs.declared.cmp.Ordering.TheVariants.{Less, Equal, Greater}
use Rattle.std.specs.Cmp.Lexicographic.{slice_cmp}
use Rattle.std.specs.BTreeMap.{insert_entry}
use Rattle.std.specs.Map.{keys_of, lookup, set_value}
use Rattle.std.proofs.lemmas.List.Elements.{same_from_all_zip}
use Rattle.std.proofs.lemmas.Slice.Eq.{bytes_eq-Decides}
use Rattle.std.proofs.lemmas.Map.Text.{is_eq-slice_cmp}
use Rattle.tombstones.specs.declared.range.TombRange.{TombRange}
use Rattle.tombstones.specs.Ranges.{Covers, CoversAlso}
use Rattle.tombstones.specs.Covered.{Tomb, Hides, HidesAlso}
use Rattle.tombstones.specs.Kept.{Row, tombs_of_row, tombs_of, tombs_with, IsRow, finds}

abbrev Key : Type 0
Key = Vec ℕ Global

pub same_key : (key : List ℕ) (k : Key) → finds key k ≡ true → key ≡ k.items
same_key key k h = (bytes_eq-Decides key k.items).0 (sym (is_eq-slice_cmp key k.items) ∙ h)

pub finds_same : (key : List ℕ) (k : Key) → key ≡ k.items → finds key k ≡ true
finds_same key k h = is_eq-slice_cmp key k.items ∙ (bytes_eq-Decides key k.items).1 h

-- ---- lists of tombstones

pub hides-split : (xs ys : List Tomb) (key : List ℕ) (t : ℤ) → Hides (xs ++ ys) key t → Hides xs key t ⊎ Hides ys key t
hides-split [] ys key t h = inr h
hides-split (x ∷ xs) ys key t (inl s) = inl (inl s)
hides-split (x ∷ xs) ys key t (inr h) = elim (hides-split xs ys key t h) [ inl a ↦ inl (inr a) | inr b ↦ inr b ]

pub hides-front : (xs ys : List Tomb) (key : List ℕ) (t : ℤ) → Hides xs key t → Hides (xs ++ ys) key t
hides-front [] ys key t h = absurd h
hides-front (x ∷ xs) ys key t (inl s) = inl s
hides-front (x ∷ xs) ys key t (inr h) = inr (hides-front xs ys key t h)

pub hides-back : (xs ys : List Tomb) (key : List ℕ) (t : ℤ) → Hides ys key t → Hides (xs ++ ys) key t
hides-back [] ys key t h = h
hides-back (x ∷ xs) ys key t h = inr (hides-back xs ys key t h)

pub row_hides : (own : List ℕ) (ranges : List TombRange) (key : List ℕ) (t : ℤ) → Hides (tombs_with own ranges) key t → (own ≡ key) × Covers ranges t
row_hides own [] key t h = absurd h
row_hides own (range ∷ ranges) key t (inl s) = (s.0, inl s.1)
row_hides own (range ∷ ranges) key t (inr h) = let rest = row_hides own ranges key t h in (rest.0, inr rest.1)

pub hides_row : (own : List ℕ) (ranges : List TombRange) (key : List ℕ) (t : ℤ) → own ≡ key → Covers ranges t → Hides (tombs_with own ranges) key t
hides_row own [] key t e c = absurd c
hides_row own (range ∷ ranges) key t e (inl s) = inl (e, s)
hides_row own (range ∷ ranges) key t e (inr c) = inr (hides_row own ranges key t e c)

-- ---- rows that are found

absent-at : (key : List ℕ) (row : Row) (rows : List Row) (t : ℤ) (b : Bool) → finds key row.0 ≡ b → cond b (Some row.1) (lookup (finds key) rows) ≡ None → (lookup (finds key) rows ≡ None → Hides (tombs_of rows) key t → ⊥) → Hides (tombs_of (row ∷ rows)) key t → ⊥
absent-at key row rows t true is h later hides = absurd cc
absent-at key row rows t false is h later hides = elim (hides-split (tombs_of_row row) (tombs_of rows) key t hides) [
  | inl a ↦ let e : true ≡ false = sym (finds_same key row.0 (sym (row_hides row.0.items row.1 key t a).0)) ∙ is in absurd cc
  | inr b ↦ later h b
]

-- no row has the key
pub absent : (key : List ℕ) (rows : List Row) (t : ℤ) → lookup (finds key) rows ≡ None → Hides (tombs_of rows) key t → ⊥
absent key [] t h hides = hides
absent key (row ∷ rows) t h hides = absent-at key row rows t (finds key row.0) refl h (absent key rows t) hides

-- all keys behind are above this one, so none is it
others_hide : (own : Key) (rows : List Row) (key : List ℕ) (t : ℤ) → own.items ≡ key → AllByRecursion (λ (k : Key). slice_cmp nat_cmp own.items k.items ≡ Less) (keys_of rows) → Hides (tombs_of rows) key t → ⊥
others_hide own [] key t e a h = h
others_hide own (row ∷ rows) key t e a h = elim (hides-split (tombs_of_row row) (tombs_of rows) key t h) [
  | inl x ↦
      let same : finds own.items row.0 ≡ true = finds_same own.items row.0 (e ∙ sym (row_hides row.0.items row.1 key t x).0) in
      let less : finds own.items row.0 ≡ false = ap is_eq a.0 in
      let both : true ≡ false = sym same ∙ less in
      absurd cc
  | inr x ↦ others_hide own rows key t e a.1 x
]

found-at : (key : List ℕ) (row : Row) (rows : List Row) (ranges : List TombRange) (b : Bool) → finds key row.0 ≡ b → cond b (Some row.1) (lookup (finds key) rows) ≡ Some ranges
    → AllByRecursion (λ (k : Key). slice_cmp nat_cmp row.0.items k.items ≡ Less) (keys_of rows)
    → (t : ℤ) → (lookup (finds key) rows ≡ Some ranges → (Covers ranges t → Hides (tombs_of rows) key t) × (Hides (tombs_of rows) key t → Covers ranges t))
    → (Covers ranges t → Hides (tombs_of (row ∷ rows)) key t) × (Hides (tombs_of (row ∷ rows)) key t → Covers ranges t)
found-at key row rows ranges true is h above t later =
    let own : row.0.items ≡ key = sym (same_key key row.0 is) in
    let same : row.1 ≡ ranges = cc in (
      λ c. hides-front (tombs_of_row row) (tombs_of rows) key t (hides_row row.0.items row.1 key t own (subst (λ (rs : List TombRange). Covers rs t) (sym same) c)),
      λ hides. elim (hides-split (tombs_of_row row) (tombs_of rows) key t hides) [
        | inl a ↦ subst (λ (rs : List TombRange). Covers rs t) same (row_hides row.0.items row.1 key t a).1
        | inr b ↦ absurd (others_hide row.0 rows key t own above b)
      ],
    )
found-at key row rows ranges false is h above t later =
    let rest = later h in (
      λ c. hides-back (tombs_of_row row) (tombs_of rows) key t (rest.0 c),
      λ hides. elim (hides-split (tombs_of_row row) (tombs_of rows) key t hides) [
        | inl a ↦ let e : true ≡ false = sym (finds_same key row.0 (sym (row_hides row.0.items row.1 key t a).0)) ∙ is in absurd cc
        | inr b ↦ rest.1 b
      ],
    )

-- the row that is found says what is hidden of its key
pub found : (key : List ℕ) (rows : List Row) (ranges : List TombRange) → IsStrictlySortedBy (λ (x y : Key). slice_cmp nat_cmp x.items y.items) (keys_of rows) → lookup (finds key) rows ≡ Some ranges
    → (t : ℤ) → (Covers ranges t → Hides (tombs_of rows) key t) × (Hides (tombs_of rows) key t → Covers ranges t)
unfolding IsStrictlySortedBy
found key [] ranges sorted h t = absurd cc
found key (row ∷ rows) ranges sorted h t = found-at key row rows ranges (finds key row.0) refl h sorted.0 t (λ e. found key rows ranges sorted.1 e t)

-- ---- changes

also-behind : (A xs ys : List Tomb) (key : List ℕ) (range : TombRange) → HidesAlso xs key range ys → HidesAlso (A ++ xs) key range (A ++ ys)
also-behind A xs ys key range h = record {
  added = λ t s. hides-back A ys key t (h.added t s);
  kept = λ other t g. elim (hides-split A xs other t g) [ inl a ↦ hides-front A ys other t a | inr b ↦ hides-back A ys other t (h.kept other t b) ];
  no_other = λ other t g. elim (hides-split A ys other t g) [
    | inl a ↦ inl (hides-front A xs other t a)
    | inr b ↦ elim (h.no_other other t b) [ inl c ↦ inl (hides-back A xs other t c) | inr c ↦ inr c ]
  ];
}

also-front : (own : List ℕ) (some more : List TombRange) (xs : List Tomb) (key : List ℕ) (range : TombRange) → own ≡ key → CoversAlso some range more
    → HidesAlso (tombs_with own some ++ xs) key range (tombs_with own more ++ xs)
also-front own some more xs key range e h = record {
  added = λ t s. hides-front (tombs_with own more) xs key t (hides_row own more key t e (h.added t s));
  kept = λ other t g. elim (hides-split (tombs_with own some) xs other t g) [
    | inl a ↦ let row = row_hides own some other t a in hides-front (tombs_with own more) xs other t (hides_row own more other t row.0 (h.kept t row.1))
    | inr b ↦ hides-back (tombs_with own more) xs other t b
  ];
  no_other = λ other t g. elim (hides-split (tombs_with own more) xs other t g) [
    | inl a ↦ let row = row_hides own more other t a in elim (h.no_other t row.1) [
      | inl c ↦ inl (hides-front (tombs_with own some) xs other t (hides_row own some other t row.0 c))
      | inr s ↦ inr (sym e ∙ row.0, s)
    ]
    | inr b ↦ inl (hides-back (tombs_with own some) xs other t b)
  ];
}

covers_one : (range : TombRange) → CoversAlso [] range (range ∷ [])
covers_one range = record {
  added = λ t s. inl s;
  kept = λ t c. absurd c;
  no_other = λ t c. elim c [ inl s ↦ inr s | inr n ↦ absurd n ];
}

set_hides-at : (key : List ℕ) (row : Row) (rows : List Row) (some more : List TombRange) (range : TombRange) (b : Bool) → finds key row.0 ≡ b
    → cond b (Some row.1) (lookup (finds key) rows) ≡ Some some → CoversAlso some range more
    → (lookup (finds key) rows ≡ Some some → HidesAlso (tombs_of rows) key range (tombs_of (set_value (finds key) rows more)))
    → HidesAlso (tombs_of (row ∷ rows)) key range (tombs_of (cond b ((row.0, more) ∷ rows) (row ∷ set_value (finds key) rows more)))
set_hides-at key row rows some more range true is h also later =
    let own : row.0.items ≡ key = sym (same_key key row.0 is) in
    let same : row.1 ≡ some = cc in
    also-front row.0.items row.1 more (tombs_of rows) key range own (subst (λ (rs : List TombRange). CoversAlso rs range more) (sym same) also)
set_hides-at key row rows some more range false is h also later =
    also-behind (tombs_of_row row) (tombs_of rows) (tombs_of (set_value (finds key) rows more)) key range (later h)

pub set_hides : (key : List ℕ) (rows : List Row) (some more : List TombRange) (range : TombRange) → lookup (finds key) rows ≡ Some some → CoversAlso some range more
    → HidesAlso (tombs_of rows) key range (tombs_of (set_value (finds key) rows more))
set_hides key [] some more range h also = absurd cc
set_hides key (row ∷ rows) some more range h also = set_hides-at key row rows some more range (finds key row.0) refl h also (λ e. set_hides key rows some more range e also)

insert_hides-at : (key : List ℕ) (k : Key) (row : Row) (rows : List Row) (range : TombRange) (o : Ordering) → k.items ≡ key → slice_cmp nat_cmp k.items row.0.items ≡ o
    → finds key row.0 ≡ false → HidesAlso (tombs_of rows) key range (tombs_of (insert_entry (λ (x y : Key). slice_cmp nat_cmp x.items y.items) rows k (range ∷ [])))
    → HidesAlso (tombs_of (row ∷ rows)) key range (tombs_of (match_ordering o ((k, range ∷ []) ∷ row ∷ rows) ((row.0, range ∷ []) ∷ rows) (row ∷ insert_entry (λ (x y : Key). slice_cmp nat_cmp x.items y.items) rows k (range ∷ []))))
insert_hides-at key k row rows range Less e is not later = also-front k.items [] (range ∷ []) (tombs_of (row ∷ rows)) key range e (covers_one range)
insert_hides-at key k row rows range Equal e is not later =
    let at : finds k.items row.0 ≡ true = ap is_eq is in
    let both : true ≡ false = sym (subst (λ (x : List ℕ). finds x row.0 ≡ true) e at) ∙ not in
    absurd cc
insert_hides-at key k row rows range Greater e is not later =
    also-behind (tombs_of_row row) (tombs_of rows) (tombs_of (insert_entry (λ (x y : Key). slice_cmp nat_cmp x.items y.items) rows k (range ∷ []))) key range later

none_here : (b : Bool) (r : List TombRange) (o : Option (List TombRange)) → cond b (Some r) o ≡ None → (b ≡ false) × (o ≡ None)
none_here true r o h = absurd cc
none_here false r o h = (refl, h)

pub insert_hides : (key : List ℕ) (k : Key) (rows : List Row) (range : TombRange) → k.items ≡ key → lookup (finds key) rows ≡ None
    → HidesAlso (tombs_of rows) key range (tombs_of (insert_entry (λ (x y : Key). slice_cmp nat_cmp x.items y.items) rows k (range ∷ [])))
insert_hides key k [] range e h = also-front k.items [] (range ∷ []) [] key range e (covers_one range)
insert_hides key k (row ∷ rows) range e h =
    let none = none_here (finds key row.0) row.1 (lookup (finds key) rows) h in
    insert_hides-at key k row rows range (slice_cmp nat_cmp k.items row.0.items) e refl none.0 (insert_hides key k rows range e none.1)

-- ---- the rows stay rows

set_rows-at : (key : List ℕ) (row : Row) (rows : List Row) (more : List TombRange) (b : Bool) → IsRow row → AllByRecursion IsRow rows → more ≢ [] → AllByRecursion IsRow (set_value (finds key) rows more)
    → AllByRecursion IsRow (cond b ((row.0, more) ∷ rows) (row ∷ set_value (finds key) rows more))
set_rows-at key row rows more true is a some later = (record { some = some; short = is.short }, a)
set_rows-at key row rows more false is a some later = (is, later)

pub set_rows : (key : List ℕ) (rows : List Row) (more : List TombRange) → AllByRecursion IsRow rows → more ≢ [] → AllByRecursion IsRow (set_value (finds key) rows more)
set_rows key [] more a some = tt
set_rows key (row ∷ rows) more a some = set_rows-at key row rows more (finds key row.0) a.0 a.1 some (set_rows key rows more a.1 some)

insert_rows-at : (k : Key) (row : Row) (rows : List Row) (ranges : List TombRange) (o : Ordering) → length k.items < 2 ^ 32 → ranges ≢ [] → IsRow row → AllByRecursion IsRow rows
    → AllByRecursion IsRow (insert_entry (λ (x y : Key). slice_cmp nat_cmp x.items y.items) rows k ranges)
    → AllByRecursion IsRow (match_ordering o ((k, ranges) ∷ row ∷ rows) ((row.0, ranges) ∷ rows) (row ∷ insert_entry (λ (x y : Key). slice_cmp nat_cmp x.items y.items) rows k ranges))
insert_rows-at k row rows ranges Less short some is a later = (record { some = some; short = short }, (is, a))
insert_rows-at k row rows ranges Equal short some is a later = (record { some = some; short = is.short }, a)
insert_rows-at k row rows ranges Greater short some is a later = (is, later)

pub insert_rows : (k : Key) (rows : List Row) (ranges : List TombRange) → length k.items < 2 ^ 32 → ranges ≢ [] → AllByRecursion IsRow rows
    → AllByRecursion IsRow (insert_entry (λ (x y : Key). slice_cmp nat_cmp x.items y.items) rows k ranges)
insert_rows k [] ranges short some a = (record { some = some; short = short }, tt)
insert_rows k (row ∷ rows) ranges short some a =
    insert_rows-at k row rows ranges (slice_cmp nat_cmp k.items row.0.items) short some a.0 a.1 (insert_rows k rows ranges short some a.1)

pub none_from_no_rows : (rows : List Row) → length rows ≡ 0 → tombs_of rows ≡ []
none_from_no_rows [] h = refl
none_from_no_rows (row ∷ rows) h = absurd (omega arith)

some_tombs : (key : List ℕ) (ranges : List TombRange) (xs : List Tomb) → ranges ≢ [] → tombs_with key ranges ++ xs ≡ [] → ⊥
some_tombs key [] xs some e = some refl
some_tombs key (range ∷ ranges) xs some e = cc

pub no_rows_from_none : (rows : List Row) → AllByRecursion IsRow rows → tombs_of rows ≡ [] → length rows ≡ 0
no_rows_from_none [] a e = refl
no_rows_from_none (row ∷ rows) a e = absurd (some_tombs row.0.items row.1 (tombs_of rows) a.0.some e)

-- ---- a copy

abbrev pub IsCopy : Row → Row → Type 0
IsCopy row copy = (AllZip (λ (x y : ℕ). y ≡ x) row.0.items copy.0.items × (vec_len copy.0 ≡ vec_len row.0)) × (copy.1 ≡ row.1)

same_items : (row copy : Row) → IsCopy row copy → copy.0.items ≡ row.0.items
same_items row copy h = same_from_all_zip (λ (x y : ℕ). y ≡ x) row.0.items copy.0.items h.0.0 (λ x y e. e)

pub copy_tombs : (rows copy : List Row) → AllZip IsCopy rows copy → tombs_of copy ≡ tombs_of rows
copy_tombs [] [] h = refl
copy_tombs [] (copy ∷ copies) h = absurd h
copy_tombs (row ∷ rows) [] h = absurd h
copy_tombs (row ∷ rows) (copy ∷ copies) h =
    let items = same_items row copy h.0 in
    let ranges = h.0.1 in
    let rest = copy_tombs rows copies h.1 in
    rw (items, ranges, rest) refl

copy_above : (own own' : Key) (rows copy : List Row) → own'.items ≡ own.items → AllZip IsCopy rows copy → AllByRecursion (λ (k : Key). slice_cmp nat_cmp own.items k.items ≡ Less) (keys_of rows)
    → AllByRecursion (λ (k : Key). slice_cmp nat_cmp own'.items k.items ≡ Less) (keys_of copy)
copy_above own own' [] [] e h a = tt
copy_above own own' [] (copy ∷ copies) e h a = absurd h
copy_above own own' (row ∷ rows) [] e h a = absurd h
copy_above own own' (row ∷ rows) (copy ∷ copies) e h a =
    let items = same_items row copy h.0 in
    (rw (e, items) a.0, copy_above own own' rows copies e h.1 a.1)

pub copy_ascends : (rows copy : List Row) → AllZip IsCopy rows copy → IsStrictlySortedBy (λ (x y : Key). slice_cmp nat_cmp x.items y.items) (keys_of rows)
    → IsStrictlySortedBy (λ (x y : Key). slice_cmp nat_cmp x.items y.items) (keys_of copy)
unfolding IsStrictlySortedBy
copy_ascends [] [] h a = tt
copy_ascends [] (copy ∷ copies) h a = absurd h
copy_ascends (row ∷ rows) [] h a = absurd h
copy_ascends (row ∷ rows) (copy ∷ copies) h a = (copy_above row.0 copy.0 rows copies (same_items row copy h.0) h.1 a.0, copy_ascends rows copies h.1 a.1)

pub copy_rows : (rows copy : List Row) → AllZip IsCopy rows copy → AllByRecursion IsRow rows → AllByRecursion IsRow copy
copy_rows [] [] h a = tt
copy_rows [] (copy ∷ copies) h a = absurd h
copy_rows (row ∷ rows) [] h a = absurd h
copy_rows (row ∷ rows) (copy ∷ copies) h a =
    let items = same_items row copy h.0 in
    let ranges = h.0.1 in
    (record { some = rw ranges a.0.some; short = rw items a.0.short }, copy_rows rows copies h.1 a.1)

set_same-at : (key : List ℕ) (row : Row) (rows : List Row) (some more : List TombRange) (b : Bool) → cond b (Some row.1) (lookup (finds key) rows) ≡ Some some → more ≡ some
    → (lookup (finds key) rows ≡ Some some → set_value (finds key) rows more ≡ rows) → cond b ((row.0, more) ∷ rows) (row ∷ set_value (finds key) rows more) ≡ row ∷ rows
set_same-at key row rows some more true h e later =
    let same : row.1 ≡ some = cc in
    ap (λ (rs : List TombRange). (row.0, rs) ∷ rows) (e ∙ sym same)
set_same-at key row rows some more false h e later = ap (λ (rs : List Row). row ∷ rs) (later h)

set_same : (key : List ℕ) (rows : List Row) (some more : List TombRange) → lookup (finds key) rows ≡ Some some → more ≡ some → set_value (finds key) rows more ≡ rows
set_same key [] some more h e = refl
set_same key (row ∷ rows) some more h e = set_same-at key row rows some more (finds key row.0) h e (λ g. set_same key rows some more g e)

-- what is written back unchanged changes nothing
pub set_nothing : (key : List ℕ) (rows : List Row) (some more : List TombRange) → lookup (finds key) rows ≡ Some some → more ≡ some → tombs_of (set_value (finds key) rows more) ≡ tombs_of rows
set_nothing key rows some more h e = ap tombs_of (set_same key rows some more h e)

found_some-at : (key : List ℕ) (row : Row) (rows : List Row) (some : List TombRange) (b : Bool) → IsRow row → cond b (Some row.1) (lookup (finds key) rows) ≡ Some some
    → (lookup (finds key) rows ≡ Some some → some ≢ []) → some ≢ []
found_some-at key row rows some true is h later =
    let same : row.1 ≡ some = cc in
    λ none. is.some (same ∙ none)
found_some-at key row rows some false is h later = later h

-- a row that is found has a range
pub found_some : (key : List ℕ) (rows : List Row) (some : List TombRange) → AllByRecursion IsRow rows → lookup (finds key) rows ≡ Some some → some ≢ []
found_some key [] some a h = absurd cc
found_some key (row ∷ rows) some a h = found_some-at key row rows some (finds key row.0) a.0 h (λ g. found_some key rows some a.1 g)

pub kept_some : {T E : Type 0} (r : Result T E) (old new : List TombRange) → OnOk r (new ≢ []) → OnErr r (new ≡ old) → old ≢ [] → new ≢ []
kept_some (Ok x) old new a b some = a
kept_some (Err e) old new a b some = λ none. some (sym b ∙ none)
