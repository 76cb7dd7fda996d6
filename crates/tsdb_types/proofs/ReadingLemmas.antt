use Rattle.std.proofs.Common.{◌≡◌, ◌≢◌, ℕ, suc, ◌-◌, Bool, true, false, ⊎_elim, List, [], ◌∷◌, ◌++◌, length, get_or, drop, refl, sym, ap, subst, ◌∙◌, arith}
use Rattle.std.specs.List.{All}
use Rattle.std.proofs.lemmas.Bool.{false≢true}
use Rattle.std.proofs.lemmas.List.{append_assoc}
use Rattle.tsdb_types.specs.Names.{IsName}
use Rattle.tsdb_types.specs.Series.{escaped, measurement_ends_at, tag_ends_at, tags_text, ReadsOnce}
use Rattle.tsdb_types.specs.Spelled.{EndsName}
use Rattle.tsdb_types.specs.declared.tag.Tag.{Tag}
use Rattle.tsdb_types.proofs.EscapeLemmas.{decided, escaped-picked, escaped-left}

abbrev pub IsClosed : List ℕ → Type 0
IsClosed name = get_or name (length name - 1) 0 ≢ 92

closed-tail : (b : ℕ) (name : List ℕ) → IsClosed (b ∷ name) → IsClosed name
closed-tail b [] h = λ f. absurd (omega (arith, f))
closed-tail b (c ∷ m) h = λ f.
    let shorter : length (c ∷ m) - 1 ≡ length m = omega arith in
    let longer : length (b ∷ c ∷ m) - 1 ≡ suc (length m) = omega arith in
    h (ap (λ (k : ℕ). get_or (b ∷ c ∷ m) k 0) longer ∙ sym (ap (λ (k : ℕ). get_or (c ∷ m) k 0) shorter) ∙ f)

module _ (picks : ℕ → Bool) (slash : picks 92 ≡ false) where
  -- a name begins with no byte at which it would end
  never : (b : ℕ) (name rest stop : List ℕ) → EndsName picks stop → stop ≡ escaped picks (b ∷ name) ++ rest → ⊥
  never b name rest stop s e =
      ⊎_elim
      (λ (p : picks b ≡ true). false≢true (sym slash ∙ subst (λ (t : List ℕ). EndsName picks t) (e ∙ ap (λ (t : List ℕ). t ++ rest) (escaped-picked picks b name p)) s))
      (λ (p : picks b ≡ false). false≢true (sym p ∙ subst (λ (t : List ℕ). EndsName picks t) (e ∙ ap (λ (t : List ℕ). t ++ rest) (escaped-left picks b name p)) s))
      (decided (picks b))

  -- a name whose first byte is a backslash has more, which no backslash stands for
  slashed : (other more : List ℕ) (c b : ℕ) (behind : List ℕ) → IsClosed (c ∷ other) → 92 ≡ c → picks b ≡ true → b ∷ behind ≡ escaped picks other ++ more → ⊥
  slashed [] more c b behind closed is p e = closed (sym is)
  slashed (d ∷ other) more c b behind closed is p e = never d other more (b ∷ behind) p e

  -- a byte with its backslash is none without
  apart : (b : ℕ) (name rest : List ℕ) (c : ℕ) (other more : List ℕ) → picks b ≡ true → picks c ≡ false → IsClosed (c ∷ other) → escaped picks (b ∷ name) ++ rest ≡ escaped picks (c ∷ other) ++ more → ⊥
  apart b name rest c other more p q closed e =
      let same : 92 ∷ b ∷ (escaped picks name ++ rest) ≡ c ∷ (escaped picks other ++ more) =
      sym (ap (λ (t : List ℕ). t ++ rest) (escaped-picked picks b name p)) ∙ e ∙ ap (λ (t : List ℕ). t ++ more) (escaped-left picks c other q) in
      slashed other more c b (escaped picks name ++ rest) closed (ap (λ (t : List ℕ). get_or t 0 0) same) p (ap (λ (t : List ℕ). drop 1 t) same)

  -- a text is that of one name, up to where the name stops
  pub one_name : (name other rest more : List ℕ) → IsClosed name → IsClosed other → EndsName picks rest → EndsName picks more → escaped picks name ++ rest ≡ escaped picks other ++ more → (name ≡ other) × (rest ≡ more)
  one_name [] [] rest more n o s t e = (refl, e)
  one_name [] (c ∷ other) rest more n o s t e = absurd (never c other more rest s e)
  one_name (b ∷ name) [] rest more n o s t e = absurd (never b name rest more t (sym e))
  one_name (b ∷ name) (c ∷ other) rest more n o s t e =
      ⊎_elim
      (λ (p : picks b ≡ true).
      ⊎_elim
      (λ (q : picks c ≡ true).
      let same : 92 ∷ b ∷ (escaped picks name ++ rest) ≡ 92 ∷ c ∷ (escaped picks other ++ more) =
      sym (ap (λ (t : List ℕ). t ++ rest) (escaped-picked picks b name p)) ∙ e ∙ ap (λ (t : List ℕ). t ++ more) (escaped-picked picks c other q) in
      let both = one_name name other rest more (closed-tail b name n) (closed-tail c other o) s t (ap (λ (t : List ℕ). drop 2 t) same) in
      let first : b ≡ c = ap (λ (t : List ℕ). get_or t 1 0) same in
      (ap (λ (x : ℕ). x ∷ name) first ∙ ap (λ (t : List ℕ). c ∷ t) both.0, both.1))
      (λ (q : picks c ≡ false). absurd (apart b name rest c other more p q o e))
      (decided (picks c)))
      (λ (p : picks b ≡ false).
      ⊎_elim
      (λ (q : picks c ≡ true). absurd (apart c other more b name rest q p n (sym e)))
      (λ (q : picks c ≡ false).
      let same : b ∷ (escaped picks name ++ rest) ≡ c ∷ (escaped picks other ++ more) =
      sym (ap (λ (t : List ℕ). t ++ rest) (escaped-left picks b name p)) ∙ e ∙ ap (λ (t : List ℕ). t ++ more) (escaped-left picks c other q) in
      let both = one_name name other rest more (closed-tail b name n) (closed-tail c other o) s t (ap (λ (t : List ℕ). drop 1 t) same) in
      let first : b ≡ c = ap (λ (t : List ℕ). get_or t 0 0) same in
      (ap (λ (x : ℕ). x ∷ name) first ∙ ap (λ (t : List ℕ). c ∷ t) both.0, both.1))
      (decided (picks c)))
      (decided (picks b))

abbrev pub Named : List Tag → Type 0
Named tags = All (λ tag. IsName tag.key × IsName tag.value) tags

pub named-first : (tag : Tag) (tags : List Tag) → Named (tag ∷ tags) → IsName tag.key × IsName tag.value
named-first tag tags h = h 0 tag (omega arith)

pub named-rest : (tag : Tag) (tags : List Tag) → Named (tag ∷ tags) → Named tags
named-rest tag tags h = λ k d l. h (suc k) d (omega arith)

-- the key, and what stands behind it
pub tags_text-shape : (tag : Tag) (tags : List Tag) → tags_text (tag ∷ tags) ≡ 44 ∷ (escaped tag_ends_at tag.key ++ 61 ∷ (escaped tag_ends_at tag.value ++ tags_text tags))
tags_text-shape tag tags = ap (λ (t : List ℕ). 44 ∷ t) (append_assoc (escaped tag_ends_at tag.key) (61 ∷ escaped tag_ends_at tag.value) (tags_text tags))

pub tags-stop : (tags : List Tag) → EndsName tag_ends_at (tags_text tags)
tags-stop [] = tt
tags-stop (tag ∷ tags) = refl

pub measurement-stops : (tags : List Tag) → EndsName measurement_ends_at (tags_text tags)
measurement-stops [] = tt
measurement-stops (tag ∷ tags) = refl

abbrev tag_of : List ℕ → List ℕ → Tag
tag_of key value = record { key = key; value = value }

pub nil≢cons : (b : ℕ) (text : List ℕ) → [] ≡ b ∷ text → ⊥
nil≢cons b text e = cc

one_list : (tags others : List Tag) → Named tags → Named others → tags_text tags ≡ tags_text others → tags ≡ others
one_list [] [] n o e = refl
one_list [] (other ∷ others) n o e = absurd (nil≢cons _ _ (e ∙ tags_text-shape other others))
one_list (tag ∷ tags) [] n o e = absurd (nil≢cons _ _ (sym e ∙ tags_text-shape tag tags))
one_list (tag ∷ tags) (other ∷ others) n o e =
    let a = named-first tag tags n in
    let b = named-first other others o in
    let same = sym (tags_text-shape tag tags) ∙ e ∙ tags_text-shape other others in
    let keys = one_name tag_ends_at refl tag.key other.key (61 ∷ (escaped tag_ends_at tag.value ++ tags_text tags)) (61 ∷ (escaped tag_ends_at other.value ++ tags_text others)) a.0.closed b.0.closed refl refl (ap (λ (t : List ℕ). drop 1 t) same) in
    let values = one_name tag_ends_at refl tag.value other.value (tags_text tags) (tags_text others) a.1.closed b.1.closed (tags-stop tags) (tags-stop others) (ap (λ (t : List ℕ). drop 1 t) keys.1) in
    let first : tag ≡ other = ap (λ (k : List ℕ). tag_of k tag.value) keys.0 ∙ ap (λ (v : List ℕ). tag_of other.key v) values.0 in
    ap (λ (t : Tag). t ∷ tags) first ∙ ap (λ (ts : List Tag). other ∷ ts) (one_list tags others (named-rest tag tags n) (named-rest other others o) values.1)

-- a text is the key of one series
pub reads_once : ReadsOnce
reads_once measurement tags other others named tags_named other_named others_named e =
    let both = one_name measurement_ends_at refl measurement other (tags_text tags) (tags_text others) named.closed other_named.closed (measurement-stops tags) (measurement-stops others) e in
    (both.0, one_list tags others tags_named others_named both.1)
