-- The series that a store knows, and those of a batch that are new to it.
use Rattle.std.proofs.Common.{◌≡◌, ◌∙◌, ℕ, Bool, true, false, not, ◌&&◌, ◌||◌, List, [], ◌∷◌, ◌++◌, refl, sym, ap, subst, if◌then◌else◌, Any}
use Rattle.std.specs.List.{AllByRecursion, IsDistinct, list_any}
use Rattle.std.specs.Str.{bytes_eq}
use Rattle.std.proofs.lemmas.Bool.{false≢true}
use Rattle.std.proofs.lemmas.List.Folds.{list_any-append, list_any-from_Any, Any-from_list_any}
use Rattle.std.proofs.lemmas.Map.Keys.{IsDistinct-cons}
use Rattle.std.proofs.lemmas.Slice.Eq.{bytes_eq-Decides}
use Rattle.tsdb_types.specs.declared.point.Point.{Point}
use Rattle.point_model.specs.declared.entry.Entry.{Entry}
use Rattle.point_model.specs.declared.entry.Entry.TheVariants.{Write, Delete}
use Rattle.store_trait.specs.Calls.Write.{HasSeries, WritesSeries}
use Rattle.shard_steps.specs.Series.{is_among, series_of}

pub by_case : {C : Type 0} (b : Bool) → (b ≡ true → C) → (b ≡ false → C) → C
by_case true holds fails = holds refl
by_case false holds fails = fails refl

pub or_false : (a b : Bool) → (a || b) ≡ false → (a ≡ false) × (b ≡ false)
or_false true b none = absurd (false≢true (sym none))
or_false false b none = (refl, none)

pub turned : (texts : List (List ℕ)) (a b : List ℕ) → bytes_eq a b ≡ true → is_among texts a ≡ is_among texts b
turned texts a b same = ap (λ (t : List ℕ). is_among texts t) ((bytes_eq-Decides a b).0 same)

-- the texts that aren't held, each once
abbrev pub fresh : List (List ℕ) → List (List ℕ) → List (List ℕ)
fresh held [] = []
fresh held (text ∷ texts) = if is_among held text || is_among (fresh held texts) text then fresh held texts else text ∷ fresh held texts

absorb : (e a h ax hx r : Bool) → (e ≡ true → (a ≡ ax) × (h ≡ hx)) → (hx || r) ≡ true → r ≡ (ax && not hx) → (a && not h) ≡ ((e || a) && not h)
absorb false a h ax hx r same there is = refl
absorb true true h ax hx r same there is = refl
absorb true false true ax hx r same there is = refl
absorb true false false ax hx r same there is =
    absurd (false≢true (sym (is ∙ ap (λ (b : Bool). b && not hx) (sym (same refl).0)) ∙ ap (λ (b : Bool). b || r) (same refl).1 ∙ there))

placed : (e a h hx r : Bool) → (e ≡ true → h ≡ hx) → (hx || r) ≡ false → (e || (a && not h)) ≡ ((e || a) && not h)
placed false a h hx r same none = refl
placed true a h hx r same none = sym (ap not (same refl ∙ (or_false hx r none).0))

pub fresh_member : (held texts : List (List ℕ)) (text : List ℕ) → is_among (fresh held texts) text ≡ (is_among texts text && not (is_among held text))
fresh_member held [] text = refl
fresh_member held (first ∷ texts) text =
    let now = fresh_member held texts text in
    let here = fresh_member held texts first in
    by_case (is_among held first || is_among (fresh held texts) first)
    (λ there. ap (λ (b : Bool). is_among (if b then fresh held texts else first ∷ fresh held texts) text) there ∙ now
    ∙ absorb (bytes_eq text first) (is_among texts text) (is_among held text) (is_among texts first) (is_among held first) (is_among (fresh held texts) first)
    (λ same. (turned texts text first same, turned held text first same)) there here)
    (λ absent. ap (λ (b : Bool). is_among (if b then fresh held texts else first ∷ fresh held texts) text) absent ∙ ap (λ (b : Bool). bytes_eq text first || b) now
    ∙ placed (bytes_eq text first) (is_among texts text) (is_among held text) (is_among held first) (is_among (fresh held texts) first)
    (λ same. turned held text first same) absent)

apart : (text : List ℕ) (texts : List (List ℕ)) → is_among texts text ≡ false → AllByRecursion (λ y. bytes_eq text y ≡ false) texts
apart text [] none = tt
apart text (first ∷ texts) none = ((or_false (bytes_eq text first) (is_among texts text) none).0, apart text texts (or_false (bytes_eq text first) (is_among texts text) none).1)

one_more : (held rest inner : List (List ℕ)) (text : List ℕ) → ((q : List ℕ) → is_among rest q ≡ true → is_among held q ≡ true) → IsDistinct bytes_eq (inner ++ rest)
    → IsDistinct bytes_eq ((if is_among held text || is_among inner text then inner else text ∷ inner) ++ rest)
one_more held rest inner text within distinct =
    by_case (is_among held text || is_among inner text)
    (λ there. subst (λ (b : Bool). IsDistinct bytes_eq ((if b then inner else text ∷ inner) ++ rest)) (sym there) distinct)
    (λ absent. subst (λ (b : Bool). IsDistinct bytes_eq ((if b then inner else text ∷ inner) ++ rest)) (sym absent)
    (IsDistinct-cons bytes_eq text (inner ++ rest) (apart text (inner ++ rest) (none absent)) distinct))
  where
    none : (is_among held text || is_among inner text) ≡ false → is_among (inner ++ rest) text ≡ false
    none absent =
        list_any-append (bytes_eq text) inner rest
        ∙ ap (λ (b : Bool). b || is_among rest text) (or_false (is_among held text) (is_among inner text) absent).1
        ∙ by_case (is_among rest text) (λ there. absurd (false≢true (sym (or_false (is_among held text) (is_among inner text) absent).0 ∙ within text there))) (λ out. out)

-- they are distinct, also before others that are held
pub fresh_onto : (held rest : List (List ℕ)) → ((q : List ℕ) → is_among rest q ≡ true → is_among held q ≡ true) → IsDistinct bytes_eq rest
    → (texts : List (List ℕ)) → IsDistinct bytes_eq (fresh held texts ++ rest)
fresh_onto held rest within distinct [] = distinct
fresh_onto held rest within distinct (text ∷ texts) = one_more held rest (fresh held texts) text within (fresh_onto held rest within distinct texts)

-- the series of the entries
abbrev pub texts_in : List Entry → List (List ℕ)
texts_in [] = []
texts_in (Write client points ∷ entries) = series_of points ++ texts_in entries
texts_in (Delete client deletion ∷ entries) = texts_in entries

any_map : (text : List ℕ) (points : List Point) → list_any (λ (point : Point). bytes_eq text point.cell.series) points ≡ is_among (series_of points) text
any_map text [] = refl
any_map text (point ∷ points) = ap (λ (b : Bool). bytes_eq text point.cell.series || b) (any_map text points)

pub among_from_has : (points : List Point) (text : List ℕ) → HasSeries points text → is_among (series_of points) text ≡ true
among_from_has points text (k, x, below, at, is) =
    sym (any_map text points) ∙ list_any-from_Any (λ (point : Point). bytes_eq text point.cell.series) points (k, x, below, at, (bytes_eq-Decides text x.cell.series).1 (sym is))

pub has_from_among : (points : List Point) (text : List ℕ) → is_among (series_of points) text ≡ true → HasSeries points text
has_from_among points text among = by (Any-from_list_any (λ (point : Point). bytes_eq text point.cell.series) points (any_map text points ∙ among))
  where
    by : Any (λ (point : Point). bytes_eq text point.cell.series ≡ true) points → HasSeries points text
    by (k, x, below, at, same) = (k, x, below, at, sym ((bytes_eq-Decides text x.cell.series).0 same))

abbrev writes : List ℕ → Entry → Bool
writes text (Write client points) = is_among (series_of points) text
writes text (Delete client deletion) = false

any_writes : (text : List ℕ) (entries : List Entry) → list_any (writes text) entries ≡ is_among (texts_in entries) text
any_writes text [] = refl
any_writes text (Write client points ∷ entries) =
    ap (λ (b : Bool). is_among (series_of points) text || b) (any_writes text entries) ∙ sym (list_any-append (bytes_eq text) (series_of points) (texts_in entries))
any_writes text (Delete client deletion ∷ entries) = any_writes text entries

writes_true : (text : List ℕ) (entry : Entry) → WritesSeries text entry → writes text entry ≡ true
writes_true text (Write client points) has = among_from_has points text has
writes_true text (Delete client deletion) has = absurd has

true_writes : (text : List ℕ) (entry : Entry) → writes text entry ≡ true → WritesSeries text entry
true_writes text (Write client points) is = has_from_among points text is
true_writes text (Delete client deletion) is = absurd (false≢true is)

pub among_from_written : (entries : List Entry) (text : List ℕ) → Any (WritesSeries text) entries → is_among (texts_in entries) text ≡ true
among_from_written entries text (k, x, below, at, is) = sym (any_writes text entries) ∙ list_any-from_Any (writes text) entries (k, x, below, at, writes_true text x is)

pub written_from_among : (entries : List Entry) (text : List ℕ) → is_among (texts_in entries) text ≡ true → Any (WritesSeries text) entries
written_from_among entries text among = by (Any-from_list_any (writes text) entries (any_writes text entries ∙ among))
  where
    by : Any (λ (entry : Entry). writes text entry ≡ true) entries → Any (WritesSeries text) entries
    by (k, x, below, at, is) = (k, x, below, at, true_writes text x is)
