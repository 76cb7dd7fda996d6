-- Ids, lists, tags and measurements are read in one way.
use Rattle.std.proofs.Common.{◌≡◌, ◌≢◌, ℕ, ◌+◌, ◌^◌, ◌<◌, ◌≤◌, List, [], ◌∷◌, ◌++◌, length, Option, Some, None, refl, sym, ap, ◌∙◌, subst, arith}
use Rattle.std.specs.List.{flat_map}
use Rattle.std.specs.Ordering.{nat_cmp, is_le, is_lt}
use Rattle.std.proofs.lemmas.Map.Keys.{le_from_is_le}
use Rattle.std.proofs.lemmas.Bool.{false≢true}
use Rattle.std.specs.declared.cmp.Ordering.TheVariants.{Less}
use Rattle.std.proofs.lemmas.Cmp.{nat_cmp_total, nat_list_cmp_total, tied_itself}
use Rattle.std.proofs.lemmas.List.{append_assoc}
use Rattle.fixed_width.specs.Fields.{bytes_of_u32}
use Rattle.fixed_width.proofs.Fronts.{same_u32}
use Rattle.index_file.specs.declared.content.NameIds.{NameIds}
use Rattle.index_file.specs.declared.content.TagIds.{TagIds}
use Rattle.index_file.specs.declared.content.MeasurementIds.{MeasurementIds}
use Rattle.index_file.specs.Contents.{AreIds, AreNamed, AreTags, IsMeasurement, IsNamed, IsTag, IsText, name_cmp}
use Rattle.index_file.specs.Format.{counted_bytes, ids_bytes, measurement_bytes, named_bytes, tag_bytes, text_bytes}
use Rattle.index_file.specs.Taking.{IsBehind}
use Rattle.index_file.proofs.TakeLemmas.{StandsNone}
use Rattle.index_file.proofs.TextLemmas.{same_text}
use Rattle.index_file.proofs.CountedLemmas as counted
use Rattle.index_file.proofs.CountedLemmas.{MayBeNext, Taken}

abbrev pub IsId : ℕ → Type 0
IsId id = id < 2 ^ 32

pub same_id : (x y : ℕ) (r s : List ℕ) → IsId x → IsId y → bytes_of_u32 x ++ r ≡ bytes_of_u32 y ++ s → (x ≡ y) × (r ≡ s)
same_id x y r s a b is = same_u32 x y r s a b is

pub same_ids : (x y r s : List ℕ) → AreIds x → AreIds y → ids_bytes x ++ r ≡ ids_bytes y ++ s → (x ≡ y) × (r ≡ s)
same_ids x y r s a b is = counted.same_counted IsId (λ (id : ℕ). id) nat_cmp bytes_of_u32 nat_cmp_total same_id x y r s a.counted b.counted is

-- ---- ids, one after another

abbrev pub TakenIds : List ℕ → Option ℕ → List ℕ → List ℕ → ℕ → Type 0
TakenIds = Taken IsId (λ (id : ℕ). id) nat_cmp bytes_of_u32

abbrev pub MayBeNextId : Option ℕ → ℕ → Type 0
MayBeNextId = MayBeNext IsId (λ (id : ℕ). id) nat_cmp bytes_of_u32

pub ids_none : (all : List ℕ) → TakenIds all None [] all 0
ids_none = counted.taken_none IsId (λ (id : ℕ). id) nat_cmp bytes_of_u32 nat_cmp_total same_id

pub ids_one : (all rest behind : List ℕ) (last : Option ℕ) (done : List ℕ) (count : ℕ) (id : ℕ) → TakenIds all last done rest count → MayBeNextId last id → rest ≡ bytes_of_u32 id ++ behind
    → TakenIds all (Some id) (done ++ id ∷ []) behind (count + 1)
ids_one = counted.taken_one IsId (λ (id : ℕ). id) nat_cmp bytes_of_u32 nat_cmp_total same_id

pub ids_stuck : (bytes all rest : List ℕ) (last : Option ℕ) (done : List ℕ) (count total : ℕ) → bytes ≡ bytes_of_u32 total ++ all → total < 2 ^ 32 → count < total → TakenIds all last done rest count
    → StandsNone (MayBeNextId last) bytes_of_u32 rest → StandsNone AreIds ids_bytes bytes
ids_stuck bytes all rest last done count total is fits less taken none ids more good e =
    counted.stuck IsId (λ (id : ℕ). id) nat_cmp bytes_of_u32 nat_cmp_total same_id bytes all rest last done count total is fits less taken none ids more good.counted e

pub ids_no_count : (bytes : List ℕ) → StandsNone (λ (n : ℕ). n < 2 ^ 32) bytes_of_u32 bytes → StandsNone AreIds ids_bytes bytes
ids_no_count bytes none ids more good e = counted.no_count IsId (λ (id : ℕ). id) nat_cmp bytes_of_u32 nat_cmp_total same_id bytes none ids more good.counted e

pub ids_all : (bytes all rest : List ℕ) (last : Option ℕ) (done : List ℕ) (count total : ℕ) → bytes ≡ bytes_of_u32 total ++ all → total < 2 ^ 32 → count ≡ total → done ≢ [] → TakenIds all last done rest count
    → AreIds done × (bytes ≡ ids_bytes done ++ rest)
ids_all bytes all rest last done count total is fits end some taken =
    let whole = counted.taken_all IsId (λ (id : ℕ). id) nat_cmp bytes_of_u32 nat_cmp_total same_id bytes all rest last done count total is fits end taken in
    (record { counted = whole.0; some = some }, whole.1)

no_ids : (ids : List ℕ) → length ids ≡ 0 → ids ≡ []
no_ids [] none = refl
no_ids (x ∷ ids) none = absurd (omega (arith, none))

-- the count is 0
pub ids_some : (bytes all : List ℕ) (done : List ℕ) (count total : ℕ) → bytes ≡ bytes_of_u32 total ++ all → total < 2 ^ 32 → count ≡ total → length done ≡ count → length done ≡ 0 → StandsNone AreIds ids_bytes bytes
ids_some bytes all done count total is fits end many none ids more good e =
    let parts = same_u32 total (length ids) all (flat_map bytes_of_u32 ids ++ more) fits good.counted.count
    (sym is ∙ e ∙ counted.counted_parts IsId (λ (id : ℕ). id) nat_cmp bytes_of_u32 nat_cmp_total same_id ids more) in
    good.some (no_ids ids (omega (arith, end, many, none, parts.0)))

pub less_is : (x y : ℕ) → nat_cmp x y ≡ Less → x < y
less_is x y is = by (le_from_is_le x y (ap is_le is))
  where
    apart : x ≡ y → ⊥
    apart e = false≢true (ap is_lt (sym (tied_itself nat_cmp_total x) ∙ ap (nat_cmp x) e ∙ is))

    by : x ≤ y → x < y
    by le = grind (arith, apart)

-- an id that doesn't come behind the last one
pub not_later : (bytes rest : List ℕ) (last id : ℕ) → IsId id → bytes ≡ bytes_of_u32 id ++ rest → id ≤ last → StandsNone (MayBeNextId (Some last)) bytes_of_u32 bytes
not_later bytes rest last id fits is less item more next e =
    let both = same_id id item rest more fits next.0 (sym is ∙ e) in
    omega (arith, less_is last item next.1, both.0, less)

-- ---- a name and what stands behind it

named_parts : (x : NameIds) (rest : List ℕ) → named_bytes x ++ rest ≡ text_bytes x.name ++ (ids_bytes x.ids ++ rest)
unfolding named_bytes
named_parts x rest = append_assoc (text_bytes x.name) (ids_bytes x.ids) rest

same_named_fields : (x y : NameIds) → x.name ≡ y.name → x.ids ≡ y.ids → x ≡ y
same_named_fields x y a b = λ i. record { name = a i; ids = b i }

pub same_named : (x y : NameIds) (r s : List ℕ) → IsNamed x → IsNamed y → named_bytes x ++ r ≡ named_bytes y ++ s → (x ≡ y) × (r ≡ s)
same_named x y r s a b is =
    let name = same_text x.name y.name (ids_bytes x.ids ++ r) (ids_bytes y.ids ++ s) a.name b.name (sym (named_parts x r) ∙ is ∙ named_parts y s) in
    let ids = same_ids x.ids y.ids r s a.ids b.ids name.1 in
    (same_named_fields x y name.0 ids.0, ids.1)

abbrev list_name : NameIds → List ℕ
list_name list = list.name

pub same_lists : (x y : List NameIds) (r s : List ℕ) → AreNamed x → AreNamed y → counted_bytes named_bytes x ++ r ≡ counted_bytes named_bytes y ++ s → (x ≡ y) × (r ≡ s)
same_lists x y r s a b is = counted.same_counted IsNamed (λ (l : NameIds). l.name) name_cmp named_bytes nat_list_cmp_total same_named x y r s a b is

tag_parts : (x : TagIds) (rest : List ℕ) → tag_bytes x ++ rest ≡ text_bytes x.key ++ (counted_bytes named_bytes x.values ++ rest)
unfolding tag_bytes
tag_parts x rest = append_assoc (text_bytes x.key) (counted_bytes named_bytes x.values) rest

same_tag_fields : (x y : TagIds) → x.key ≡ y.key → x.values ≡ y.values → x ≡ y
same_tag_fields x y a b = λ i. record { key = a i; values = b i }

pub same_tag : (x y : TagIds) (r s : List ℕ) → IsTag x → IsTag y → tag_bytes x ++ r ≡ tag_bytes y ++ s → (x ≡ y) × (r ≡ s)
same_tag x y r s a b is =
    let key = same_text x.key y.key (counted_bytes named_bytes x.values ++ r) (counted_bytes named_bytes y.values ++ s) a.key b.key (sym (tag_parts x r) ∙ is ∙ tag_parts y s) in
    let values = same_lists x.values y.values r s a.values b.values key.1 in
    (same_tag_fields x y key.0 values.0, values.1)

pub same_tags : (x y : List TagIds) (r s : List ℕ) → AreTags x → AreTags y → counted_bytes tag_bytes x ++ r ≡ counted_bytes tag_bytes y ++ s → (x ≡ y) × (r ≡ s)
same_tags x y r s a b is = counted.same_counted IsTag (λ (t : TagIds). t.key) name_cmp tag_bytes nat_list_cmp_total same_tag x y r s a b is

-- ---- measurements

regroup : (a b c d rest : List ℕ) → (((a ++ b) ++ c) ++ d) ++ rest ≡ a ++ (b ++ (c ++ (d ++ rest)))
regroup a b c d rest = simp append_assoc

pub measurement_parts : (x : MeasurementIds) (rest : List ℕ)
    → measurement_bytes x ++ rest ≡ text_bytes x.name ++ (ids_bytes x.ids ++ (counted_bytes named_bytes x.fields ++ (counted_bytes tag_bytes x.tags ++ rest)))
unfolding measurement_bytes
measurement_parts x rest = regroup (text_bytes x.name) (ids_bytes x.ids) (counted_bytes named_bytes x.fields) (counted_bytes tag_bytes x.tags) rest

same_measurement_fields : (x y : MeasurementIds) → x.name ≡ y.name → x.ids ≡ y.ids → x.fields ≡ y.fields → x.tags ≡ y.tags → x ≡ y
same_measurement_fields x y a b c d = λ i. record { name = a i; ids = b i; fields = c i; tags = d i }

-- the lists of a measurement, whether or not their ids fit together
pub record HasForm (x : MeasurementIds) : Type 0 where
  pub name : IsText x.name
  pub ids : AreIds x.ids
  pub fields : AreNamed x.fields
  pub tags : AreTags x.tags

pub form_of : (x : MeasurementIds) → IsMeasurement x → HasForm x
form_of x is = record { name = is.name; ids = is.ids; fields = is.fields; tags = is.tags }

pub same_form : (x y : MeasurementIds) (r s : List ℕ) → HasForm x → HasForm y → measurement_bytes x ++ r ≡ measurement_bytes y ++ s → (x ≡ y) × (r ≡ s)
same_form x y r s a b is =
    let name = same_text x.name y.name (ids_bytes x.ids ++ (counted_bytes named_bytes x.fields ++ (counted_bytes tag_bytes x.tags ++ r)))
    (ids_bytes y.ids ++ (counted_bytes named_bytes y.fields ++ (counted_bytes tag_bytes y.tags ++ s))) a.name b.name (sym (measurement_parts x r) ∙ is ∙ measurement_parts y s) in
    let ids = same_ids x.ids y.ids (counted_bytes named_bytes x.fields ++ (counted_bytes tag_bytes x.tags ++ r)) (counted_bytes named_bytes y.fields ++ (counted_bytes tag_bytes y.tags ++ s)) a.ids b.ids name.1 in
    let fields = same_lists x.fields y.fields (counted_bytes tag_bytes x.tags ++ r) (counted_bytes tag_bytes y.tags ++ s) a.fields b.fields ids.1 in
    let tags = same_tags x.tags y.tags r s a.tags b.tags fields.1 in
    (same_measurement_fields x y name.0 ids.0 fields.0 tags.0, tags.1)

pub same_measurement : (x y : MeasurementIds) (r s : List ℕ) → IsMeasurement x → IsMeasurement y → measurement_bytes x ++ r ≡ measurement_bytes y ++ s → (x ≡ y) × (r ≡ s)
same_measurement x y r s a b is = same_form x y r s (form_of x a) (form_of y b) is

-- ---- lists and tags, one after another

-- a name that doesn't come behind the last one
pub name_not_behind : (bytes rest : List ℕ) (last : Option (List ℕ)) (name : List ℕ) → IsText name → bytes ≡ text_bytes name ++ rest → ¬ IsBehind name_cmp last name
    → StandsNone (λ (n : List ℕ). IsText n × IsBehind name_cmp last n) text_bytes bytes
name_not_behind bytes rest last name good is none item more next e =
    let both = same_text name item rest more good next.0 (sym is ∙ e) in
    none (subst (IsBehind name_cmp last) (sym both.0) next.1)

abbrev pub TakenLists : List ℕ → Option (List ℕ) → List NameIds → List ℕ → ℕ → Type 0
TakenLists = Taken IsNamed (λ (x : NameIds). x.name) name_cmp named_bytes

abbrev pub MayBeNextNameIds : Option (List ℕ) → NameIds → Type 0
MayBeNextNameIds = MayBeNext IsNamed (λ (x : NameIds). x.name) name_cmp named_bytes

pub lists_none : (all : List ℕ) → TakenLists all None [] all 0
lists_none = counted.taken_none IsNamed (λ (x : NameIds). x.name) name_cmp named_bytes nat_list_cmp_total same_named

pub lists_one : (all rest behind : List ℕ) (last : Option (List ℕ)) (done : List NameIds) (count : ℕ) (x : NameIds) → TakenLists all last done rest count → MayBeNextNameIds last x → rest ≡ named_bytes x ++ behind
    → TakenLists all (Some x.name) (done ++ x ∷ []) behind (count + 1)
lists_one = counted.taken_one IsNamed (λ (x : NameIds). x.name) name_cmp named_bytes nat_list_cmp_total same_named

pub lists_stuck : (bytes all rest : List ℕ) (last : Option (List ℕ)) (done : List NameIds) (count total : ℕ) → bytes ≡ bytes_of_u32 total ++ all → total < 2 ^ 32 → count < total → TakenLists all last done rest count
    → StandsNone (MayBeNextNameIds last) named_bytes rest → StandsNone AreNamed (counted_bytes named_bytes) bytes
lists_stuck = counted.stuck IsNamed (λ (x : NameIds). x.name) name_cmp named_bytes nat_list_cmp_total same_named

pub lists_no_count : (bytes : List ℕ) → StandsNone (λ (n : ℕ). n < 2 ^ 32) bytes_of_u32 bytes → StandsNone AreNamed (counted_bytes named_bytes) bytes
lists_no_count = counted.no_count IsNamed (λ (x : NameIds). x.name) name_cmp named_bytes nat_list_cmp_total same_named

pub lists_all : (bytes all rest : List ℕ) (last : Option (List ℕ)) (done : List NameIds) (count total : ℕ) → bytes ≡ bytes_of_u32 total ++ all → total < 2 ^ 32 → count ≡ total → TakenLists all last done rest count
    → AreNamed done × (bytes ≡ counted_bytes named_bytes done ++ rest)
lists_all = counted.taken_all IsNamed (λ (x : NameIds). x.name) name_cmp named_bytes nat_list_cmp_total same_named

abbrev pub TakenTags : List ℕ → Option (List ℕ) → List TagIds → List ℕ → ℕ → Type 0
TakenTags = Taken IsTag (λ (x : TagIds). x.key) name_cmp tag_bytes

abbrev pub MayBeNextTagIds : Option (List ℕ) → TagIds → Type 0
MayBeNextTagIds = MayBeNext IsTag (λ (x : TagIds). x.key) name_cmp tag_bytes

pub tags_none : (all : List ℕ) → TakenTags all None [] all 0
tags_none = counted.taken_none IsTag (λ (x : TagIds). x.key) name_cmp tag_bytes nat_list_cmp_total same_tag

pub tags_one : (all rest behind : List ℕ) (last : Option (List ℕ)) (done : List TagIds) (count : ℕ) (x : TagIds) → TakenTags all last done rest count → MayBeNextTagIds last x → rest ≡ tag_bytes x ++ behind
    → TakenTags all (Some x.key) (done ++ x ∷ []) behind (count + 1)
tags_one = counted.taken_one IsTag (λ (x : TagIds). x.key) name_cmp tag_bytes nat_list_cmp_total same_tag

pub tags_stuck : (bytes all rest : List ℕ) (last : Option (List ℕ)) (done : List TagIds) (count total : ℕ) → bytes ≡ bytes_of_u32 total ++ all → total < 2 ^ 32 → count < total → TakenTags all last done rest count
    → StandsNone (MayBeNextTagIds last) tag_bytes rest → StandsNone AreTags (counted_bytes tag_bytes) bytes
tags_stuck = counted.stuck IsTag (λ (x : TagIds). x.key) name_cmp tag_bytes nat_list_cmp_total same_tag

pub tags_no_count : (bytes : List ℕ) → StandsNone (λ (n : ℕ). n < 2 ^ 32) bytes_of_u32 bytes → StandsNone AreTags (counted_bytes tag_bytes) bytes
tags_no_count = counted.no_count IsTag (λ (x : TagIds). x.key) name_cmp tag_bytes nat_list_cmp_total same_tag

pub tags_all : (bytes all rest : List ℕ) (last : Option (List ℕ)) (done : List TagIds) (count total : ℕ) → bytes ≡ bytes_of_u32 total ++ all → total < 2 ^ 32 → count ≡ total → TakenTags all last done rest count
    → AreTags done × (bytes ≡ counted_bytes tag_bytes done ++ rest)
tags_all = counted.taken_all IsTag (λ (x : TagIds). x.key) name_cmp tag_bytes nat_list_cmp_total same_tag

-- ---- a name, and the rest of an item

-- no list stands where there is no name that may come next
pub list_no_name : (bytes : List ℕ) (last : Option (List ℕ)) → StandsNone (λ (n : List ℕ). IsText n × IsBehind name_cmp last n) text_bytes bytes → StandsNone (MayBeNextNameIds last) named_bytes bytes
list_no_name bytes last none x more next is = none x.name (ids_bytes x.ids ++ more) (next.0.name, next.1) (is ∙ named_parts x more)

-- nor where no ids stand behind it
pub list_no_ids : (bytes behind : List ℕ) (last : Option (List ℕ)) (name : List ℕ) → IsText name → bytes ≡ text_bytes name ++ behind → StandsNone AreIds ids_bytes behind → StandsNone (MayBeNextNameIds last) named_bytes bytes
list_no_ids bytes behind last name good is none x more next e =
    let both = same_text name x.name behind (ids_bytes x.ids ++ more) good next.0.name (sym is ∙ e ∙ named_parts x more) in
    none x.ids more next.0.ids both.1

pub list_whole : (bytes behind rest : List ℕ) (x : NameIds) → bytes ≡ text_bytes x.name ++ behind → behind ≡ ids_bytes x.ids ++ rest → bytes ≡ named_bytes x ++ rest
list_whole bytes behind rest x is e = is ∙ ap (λ (l : List ℕ). text_bytes x.name ++ l) e ∙ sym (named_parts x rest)

pub tag_no_key : (bytes : List ℕ) (last : Option (List ℕ)) → StandsNone (λ (n : List ℕ). IsText n × IsBehind name_cmp last n) text_bytes bytes → StandsNone (MayBeNextTagIds last) tag_bytes bytes
tag_no_key bytes last none x more next is = none x.key (counted_bytes named_bytes x.values ++ more) (next.0.key, next.1) (is ∙ tag_parts x more)

pub tag_no_values : (bytes behind : List ℕ) (last : Option (List ℕ)) (key : List ℕ) → IsText key → bytes ≡ text_bytes key ++ behind → StandsNone AreNamed (counted_bytes named_bytes) behind → StandsNone (MayBeNextTagIds last) tag_bytes bytes
tag_no_values bytes behind last key good is none x more next e =
    let both = same_text key x.key behind (counted_bytes named_bytes x.values ++ more) good next.0.key (sym is ∙ e ∙ tag_parts x more) in
    none x.values more next.0.values both.1

pub tag_whole : (bytes behind rest : List ℕ) (x : TagIds) → bytes ≡ text_bytes x.key ++ behind → behind ≡ counted_bytes named_bytes x.values ++ rest → bytes ≡ tag_bytes x ++ rest
tag_whole bytes behind rest x is e = is ∙ ap (λ (l : List ℕ). text_bytes x.key ++ l) e ∙ sym (tag_parts x rest)
