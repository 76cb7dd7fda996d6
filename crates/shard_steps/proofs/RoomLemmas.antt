-- The series of a batch that aren't held may be added: their record is no longer than that of the batch.
use Rattle.std.proofs.Common.{◌≡◌, ℕ, ◌+◌, ◌^◌, ◌<◌, ◌≤◌, Bool, true, false, not, ◌&&◌, ◌||◌, List, [], ◌∷◌, ◌++◌, length, filter, cond, refl, sym, ap, ◌∙◌, subst, arith, if◌then◌else◌}
use Rattle.std.specs.List.{AllByRecursion, Contains, IsDistinct, flat_map}
use Rattle.std.specs.Str.{bytes_eq}
use Rattle.std.proofs.lemmas.Bool.{false≢true}
use Rattle.std.proofs.lemmas.List.{length-append}
use Rattle.std.proofs.lemmas.List.Elements.{recursion_from_All}
use Rattle.fixed_width.proofs.Fronts.{length-u32}
use Rattle.fixed_width.specs.Fields.{bytes_of_u32}
use Rattle.tsdb_types.specs.Keys.{mark}
use Rattle.tsdb_types.specs.declared.point.Point.{Point}
use Rattle.point_model.specs.Acceptance.{IsKeyed, IsWritable}
use Rattle.point_model.specs.Sizes.{goes_on, head_length, runs_length}
use Rattle.series_store.specs.Format.{HasRoom, series_bytes}
use Rattle.series_store.specs.Lists.{HasNoId, MayAdd}
use Rattle.series_store.proofs.FormatLemmas.{length-series_bytes}
use Rattle.series_store.proofs.ListLemmas.{no_id}
use Rattle.indexmap.proofs.CallerLemmas.{Contains-list_any}
use Rattle.shard_state.specs.Meaning.{AreHeld}
use Rattle.shard_steps.specs.Series.{AreUnheld, is_among, series_of}
use Rattle.shard_steps.proofs.MemberLemmas.{among_append, by_case, one_text, same_text}

-- what is so of each text among some
each_among : (P : List ℕ → Type 0) (texts : List (List ℕ)) → ((text : List ℕ) → is_among texts text ≡ true → P text) → AllByRecursion P texts
each_among P [] so = tt
each_among P (x ∷ xs) so = (so x (ap (λ (b : Bool). b || is_among xs x) (same_text x x refl)), each_among P xs (λ text among. so text (behind text among)))
  where
    or_true : (a : Bool) → (a || true) ≡ true
    or_true true = refl
    or_true false = refl

    behind : (text : List ℕ) → is_among xs text ≡ true → (bytes_eq text x || is_among xs text) ≡ true
    behind text among = ap (λ (b : Bool). bytes_eq text x || b) among ∙ or_true (bytes_eq text x)

-- what is so of each point is so of one with a series that is among theirs
of_series : (P : List ℕ → Type 0) (points : List Point) (text : List ℕ) → AllByRecursion (λ (point : Point). P point.cell.series) points → is_among (series_of points) text ≡ true → P text
of_series P [] text all among = absurd (false≢true among)
of_series P (point ∷ points) text all among =
    by_case (bytes_eq text point.cell.series)
    (λ same. subst P (sym (one_text text point.cell.series same)) all.0)
    (λ other. of_series P points text all.1 (sym (ap (λ (b : Bool). b || is_among (series_of points) text) other) ∙ among))

abbrev weight : List (List ℕ) → ℕ
weight [] = 0
weight (text ∷ texts) = 2 + length text + weight texts

abbrev others : List ℕ → List (List ℕ) → List (List ℕ)
others text texts = filter (λ other. not (bytes_eq other text)) texts

all_others : (text : List ℕ) (texts : List (List ℕ)) → AllByRecursion (λ y. bytes_eq text y ≡ false) texts → others text texts ≡ texts
all_others text [] all = refl
all_others text (x ∷ xs) all =
    by_case (bytes_eq x text)
    (λ same. absurd (false≢true (sym all.0 ∙ same_text text x (sym (one_text x text same)))))
    (λ other. ap (λ (b : Bool). cond (not b) (x ∷ others text xs) (others text xs)) other ∙ ap (λ (l : List (List ℕ)). x ∷ l) (all_others text xs all.1))

-- one text weighs no more than itself
without_one : (text : List ℕ) (texts : List (List ℕ)) → IsDistinct bytes_eq texts → weight texts ≤ weight (others text texts) + (2 + length text)
unfolding IsDistinct
without_one text [] distinct = omega arith
without_one text (x ∷ xs) distinct =
    by_case (bytes_eq x text)
    (λ same.
    let is = one_text x text same in
    let rest : others text xs ≡ xs = all_others text xs (subst (λ (t : List ℕ). AllByRecursion (λ y. bytes_eq t y ≡ false) xs) is distinct.0) in
    let all : others text (x ∷ xs) ≡ xs = ap (λ (b : Bool). cond (not b) (x ∷ others text xs) (others text xs)) same ∙ rest in
    omega (arith, ap weight all, ap length is))
    (λ other.
    let all : others text (x ∷ xs) ≡ x ∷ others text xs = ap (λ (b : Bool). cond (not b) (x ∷ others text xs) (others text xs)) other in
    omega (arith, ap weight all, without_one text xs distinct.1))

all_filter : (P : List ℕ → Type 0) (test : List ℕ → Bool) (texts : List (List ℕ)) → AllByRecursion P texts → AllByRecursion P (filter test texts)
all_filter P test [] all = tt
all_filter P test (x ∷ xs) all = by_case (test x)
    (λ passes. subst (λ (b : Bool). AllByRecursion P (cond b (x ∷ filter test xs) (filter test xs))) (sym passes) (all.0, all_filter P test xs all.1))
    (λ fails. subst (λ (b : Bool). AllByRecursion P (cond b (x ∷ filter test xs) (filter test xs))) (sym fails) (all_filter P test xs all.1))

pub distinct_filter : (test : List ℕ → Bool) (texts : List (List ℕ)) → IsDistinct bytes_eq texts → IsDistinct bytes_eq (filter test texts)
unfolding IsDistinct
distinct_filter test [] distinct = tt
distinct_filter test (x ∷ xs) distinct = by_case (test x)
    (λ passes. subst (λ (b : Bool). IsDistinct bytes_eq (cond b (x ∷ filter test xs) (filter test xs))) (sym passes) (all_filter (λ y. bytes_eq x y ≡ false) test xs distinct.0, distinct_filter test xs distinct.1))
    (λ fails. subst (λ (b : Bool). IsDistinct bytes_eq (cond b (x ∷ filter test xs) (filter test xs))) (sym fails) (distinct_filter test xs distinct.1))

-- a text among the others is among all, and isn't the one
among_others : (text : List ℕ) (texts : List (List ℕ)) (other : List ℕ) → is_among (others text texts) other ≡ true → (is_among texts other ≡ true) × (bytes_eq other text ≡ false)
among_others text [] other among = absurd (false≢true among)
among_others text (x ∷ xs) other among = by_case (bytes_eq x text)
    (λ same.
    let rest = among_others text xs other (sym (ap (λ (b : Bool). is_among (cond (not b) (x ∷ others text xs) (others text xs)) other) same) ∙ among) in
    (ap (λ (b : Bool). bytes_eq other x || b) rest.0 ∙ or_true (bytes_eq other x), rest.1))
    (λ differs.
    let here : (bytes_eq other x || is_among (others text xs) other) ≡ true = sym (ap (λ (b : Bool). is_among (cond (not b) (x ∷ others text xs) (others text xs)) other) differs) ∙ among in
    by_case (bytes_eq other x)
    (λ is. (ap (λ (b : Bool). b || is_among xs other) is, subst (λ (t : List ℕ). bytes_eq t text ≡ false) (sym (one_text other x is)) differs))
    (λ not_it.
    let rest = among_others text xs other (sym (ap (λ (b : Bool). b || is_among (others text xs) other) not_it) ∙ here) in
    (ap (λ (b : Bool). bytes_eq other x || b) rest.0 ∙ or_true (bytes_eq other x), rest.1)))
  where
    or_true : (a : Bool) → (a || true) ≡ true
    or_true true = refl
    or_true false = refl

-- the last point of a series has the head of its run
has_head : (point : Point) (points : List Point) → is_among (series_of points) point.cell.series ≡ false → goes_on point points ≡ false
has_head point [] absent = refl
has_head point (next ∷ points) absent = by_case (bytes_eq point.cell.series next.cell.series)
    (λ same. absurd (false≢true (sym absent ∙ ap (λ (b : Bool). b || is_among (series_of points) point.cell.series) same)))
    (λ other. other)

-- texts that are series of points weigh no more than the runs of these
no_heavier : (points : List Point) (texts : List (List ℕ)) → IsDistinct bytes_eq texts → ((text : List ℕ) → is_among texts text ≡ true → is_among (series_of points) text ≡ true) → weight texts ≤ runs_length points
no_heavier [] [] distinct within = omega arith
no_heavier [] (x ∷ xs) distinct within = absurd (false≢true (within x (ap (λ (b : Bool). b || is_among xs x) (same_text x x refl))))
no_heavier (point ∷ points) texts distinct within = by_case (is_among (series_of points) point.cell.series)
    (λ again.
    let rest = no_heavier points texts distinct (λ text among. behind again text (within text among)) in
    omega (arith, rest))
    (λ last.
    let s = point.cell.series in
    let rest = no_heavier points (others s texts) (distinct_filter (λ other. not (bytes_eq other s)) texts distinct)
    (λ text among. let both = among_others s texts text among in sym (ap (λ (b : Bool). b || is_among (series_of points) text) both.1) ∙ within text both.0) in
    let head : (if goes_on point points then 0 else head_length point) ≡ head_length point = ap (λ (b : Bool). if b then 0 else head_length point) (has_head point points last) in
    omega (arith, rest, head, without_one s texts distinct))
  where
    behind : is_among (series_of points) point.cell.series ≡ true → (text : List ℕ) → (bytes_eq text point.cell.series || is_among (series_of points) text) ≡ true → is_among (series_of points) text ≡ true
    behind again text among = by_case (bytes_eq text point.cell.series)
        (λ same. ap (is_among (series_of points)) (one_text text point.cell.series same) ∙ again)
        (λ other. sym (ap (λ (b : Bool). b || is_among (series_of points) text) other) ∙ among)

weighs : (texts : List (List ℕ)) → length (flat_map series_bytes texts) ≡ weight texts
weighs [] = refl
weighs (x ∷ xs) = omega (arith, length-append (series_bytes x) (flat_map series_bytes xs), length-series_bytes x, weighs xs)

and_first : (a b : Bool) → (a && b) ≡ true → a ≡ true
and_first true b e = refl
and_first false b e = absurd (false≢true e)

and_second : (a b : Bool) → (a && not b) ≡ true → b ≡ false
and_second true true e = absurd (false≢true e)
and_second true false e = refl
and_second false b e = absurd (false≢true e)

short_series : (point : Point) → IsKeyed point → length point.cell.series < 2 ^ 16
short_series point keyed = omega (arith, keyed.fits, length-append point.cell.series (mark ++ point.cell.field))

pub may_add : (held : List (List ℕ)) (points : List Point) (new : List (List ℕ)) → IsWritable points → AreUnheld held points new → length held + length new ≤ 10000000 → MayAdd held new
may_add held points new writable unheld few = record {
  distinct = unheld.distinct;
  fresh = each_among (HasNoId held) new (λ text among. no_id held text (and_second (is_among (series_of points) text) (is_among held text) (sym (unheld.exact text) ∙ among)));
  few = few;
  room = each_among HasRoom new (λ text among. of_series HasRoom points text short (of_batch text among));
  short = omega (
    arith,
    length-append (bytes_of_u32 (length new)) (flat_map series_bytes new),
    length-u32 (length new),
    weighs new,
    no_heavier points new unheld.distinct of_batch,
    writable.fits,
  );
}
  where
    of_batch : (text : List ℕ) → is_among new text ≡ true → is_among (series_of points) text ≡ true
    of_batch text among = and_first (is_among (series_of points) text) (not (is_among held text)) (sym (unheld.exact text) ∙ among)

    short_all : (ps : List Point) → AllByRecursion IsKeyed ps → AllByRecursion (λ (point : Point). HasRoom point.cell.series) ps
    short_all [] all = tt
    short_all (p ∷ ps) all = (short_series p all.0, short_all ps all.1)

    short : AllByRecursion (λ (point : Point). HasRoom point.cell.series) points
    short = short_all points (recursion_from_All IsKeyed points writable.keyed)

-- the series of each point of the batch is held then
pub are_held : (held : List (List ℕ)) (points : List Point) (new : List (List ℕ)) → AreUnheld held points new → AreHeld (held ++ new) points
are_held held points new unheld = each points (λ text among. among)
  where
    or_true : (a : Bool) → (a || true) ≡ true
    or_true true = refl
    or_true false = refl

    has : (text : List ℕ) → is_among (series_of points) text ≡ true → Contains (held ++ new) text
    has text among = Contains-list_any bytes_eq one_text (held ++ new) text (among_append held new text ∙ by_case (is_among held text)
        (λ there. ap (λ (b : Bool). b || is_among new text) there)
        (λ absent. ap (λ (b : Bool). is_among held text || b) (unheld.exact text ∙ ap (λ (b : Bool). b && not (is_among held text)) among ∙ ap not absent) ∙ or_true (is_among held text)))

    each : (ps : List Point) → ((text : List ℕ) → is_among (series_of ps) text ≡ true → is_among (series_of points) text ≡ true) → AreHeld (held ++ new) ps
    each [] within = tt
    each (p ∷ ps) within = (
      has p.cell.series (within p.cell.series (ap (λ (b : Bool). b || is_among (series_of ps) p.cell.series) (same_text p.cell.series p.cell.series refl))),
      each ps (λ text among. within text (ap (λ (b : Bool). bytes_eq text p.cell.series || b) among ∙ or_true (bytes_eq text p.cell.series))),
    )
