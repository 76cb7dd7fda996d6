-- A file is read in one way.
use Rattle.std.proofs.Common.{◌≡◌, ◌≢◌, ℕ, ◌+◌, ◌-◌, ◌^◌, ◌<◌, ◌≤◌, List, [], ◌∷◌, ◌++◌, length, take, Option, Some, None, Result, Ok, Err, IfOk, ◌⊎◌, inl, inr, refl, sym, ap, ◌∙◌, subst, arith}
use Rattle.std.specs.List.{flat_map, AllByRecursion}
use Rattle.std.specs.List.Sorted.{IsStrictlySortedBy}
use Rattle.std.proofs.lemmas.Cmp.{nat_list_cmp_total}
use Rattle.std.proofs.lemmas.Bool.{cases_lt}
use Rattle.std.proofs.lemmas.List.{append_assoc, append-nil, append_cancel_left, length-append}
use Rattle.fixed_width.specs.Fields.{bytes_of_u32}
use Rattle.fixed_width.proofs.Fronts.{length-u32, same_u32}
use Rattle.word_codec.specs.Crc32.{crc32_of}
use Rattle.shard_disk.specs.declared.damage.Damage.{Damage}
use Rattle.shard_disk.specs.declared.damage.FormatFault.{FormatFault}
use Rattle.shard_disk.specs.declared.damage.FormatFault.TheVariants.{Damaged, Memory}
use Rattle.shard_disk.specs.declared.damage.Why.TheVariants.{Sum, Body}
use Rattle.index_file.specs.declared.content.MeasurementIds.{MeasurementIds}
use Rattle.index_file.specs.declared.content.Content.{Content}
use Rattle.index_file.specs.Contents.{IsContent, IsMeasurement, name_cmp}
use Rattle.index_file.specs.Format.{file_of, front_bytes, front_of, head, measurement_bytes}
use Rattle.index_file.specs.Faults.{Answers, HasNoHead, HasWrongSum, IsCutBehind, IsDamagedBody, IsFramed, MayFollow, Reads}
use Rattle.index_file.specs.Taking.{IsBehind}
use Rattle.index_file.proofs.TakeLemmas.{StandsNone}
use Rattle.index_file.proofs.TextLemmas.{same_split}
use Rattle.index_file.proofs.ItemLemmas.{same_measurement}
use Rattle.index_file.proofs.SumLemmas.{crc32_fits}
use Rattle.std.proofs.Math.Seq.{take-append_seam}
use Rattle.index_file.proofs.CountedLemmas as counted
use Rattle.index_file.proofs.CountedLemmas.{Taken, all_right, before_all}

-- ---- measurements, one after another

abbrev pub TakenMeasurements : List ℕ → Option (List ℕ) → List MeasurementIds → List ℕ → ℕ → Type 0
TakenMeasurements = Taken IsMeasurement (λ (m : MeasurementIds). m.name) name_cmp measurement_bytes

pub measurements_none : (all : List ℕ) → TakenMeasurements all None [] all 0
measurements_none = counted.taken_none IsMeasurement (λ (m : MeasurementIds). m.name) name_cmp measurement_bytes nat_list_cmp_total same_measurement

abbrev pub MayBeNextMeasurement : Option (List ℕ) → MeasurementIds → Type 0
MayBeNextMeasurement last m = IsMeasurement m × IsBehind name_cmp last m.name

pub measurements_one : (all rest behind : List ℕ) (last : Option (List ℕ)) (done : List MeasurementIds) (count : ℕ) (m : MeasurementIds) → TakenMeasurements all last done rest count → MayBeNextMeasurement last m
    → rest ≡ measurement_bytes m ++ behind → TakenMeasurements all (Some m.name) (done ++ m ∷ []) behind (count + 1)
measurements_one = counted.taken_one IsMeasurement (λ (m : MeasurementIds). m.name) name_cmp measurement_bytes nat_list_cmp_total same_measurement

-- one more is wanted, and none that may come next stands there
pub cut_here : (count : ℕ) (body rest : List ℕ) (last : Option (List ℕ)) (done : List MeasurementIds) (i : ℕ) → TakenMeasurements body last done rest i → i < count → StandsNone (MayBeNextMeasurement last) measurement_bytes rest
    → IsCutBehind count body done
cut_here count body rest last done i taken less none = record {
  good = taken.good;
  ascending = taken.ascending;
  rest = rest;
  whole = taken.whole;
  cut = inr
      (omega (arith, taken.many, less), λ m more follows is. none m more (follows.good, counted.behind_last IsMeasurement (λ (m : MeasurementIds). m.name) name_cmp measurement_bytes nat_list_cmp_total same_measurement last done m taken.last_is follows.behind) is);
}

-- all were read, and bytes are left
pub more_here : (count : ℕ) (body rest : List ℕ) (last : Option (List ℕ)) (done : List MeasurementIds) (i : ℕ) → TakenMeasurements body last done rest i → i ≡ count → rest ≢ [] → IsCutBehind count body done
more_here count body rest last done i taken end some = record { good = taken.good; ascending = taken.ascending; rest = rest; whole = taken.whole; cut = inl (omega (arith, taken.many, end), some) }

-- where what is left begins
pub place_here : (body rest : List ℕ) (last : Option (List ℕ)) (done : List MeasurementIds) (i : ℕ) → TakenMeasurements body last done rest i → length body - length rest ≡ length (flat_map measurement_bytes done)
place_here body rest last done i taken = omega (arith, ap length taken.whole, length-append (flat_map measurement_bytes done) rest)

pub no_longer : (body rest : List ℕ) (last : Option (List ℕ)) (done : List MeasurementIds) (i : ℕ) → TakenMeasurements body last done rest i → length rest ≤ length body
no_longer body rest last done i taken = omega (arith, ap length taken.whole, length-append (flat_map measurement_bytes done) rest)

-- ---- the frame

front_parts : (count : ℕ) (body rest : List ℕ) → front_of count body ++ rest ≡ head ++ (bytes_of_u32 count ++ (body ++ rest))
unfolding front_of
front_parts count body rest = regroup head (bytes_of_u32 count) body rest
  where
    regroup : (a b c d : List ℕ) → ((a ++ b) ++ c) ++ d ≡ a ++ (b ++ (c ++ d))
    regroup a b c d = simp append_assoc

pub front_long : (count : ℕ) (body : List ℕ) → length (front_of count body) ≡ 9 + length body
unfolding front_of
front_long count body = omega (arith, length-append (head ++ bytes_of_u32 count) body, length-append head (bytes_of_u32 count), length-u32 count)

-- the parts of bytes, as they were cut
pub parts_framed : (bytes behind inner sum body end : List ℕ) (count stored : ℕ) → count < 2 ^ 32 → stored < 2 ^ 32 → bytes ≡ head ++ behind → behind ≡ inner ++ sum → inner ≡ bytes_of_u32 count ++ body → sum ≡ bytes_of_u32 stored ++ end → length sum ≡ 4
    → IsFramed count body stored bytes
parts_framed bytes behind inner sum body end count stored fits fits' a b c d four = record {
  whole =
      a ∙ ap (λ (l : List ℕ). head ++ l) (b ∙ ap (λ (l : List ℕ). l ++ sum) c ∙ append_assoc (bytes_of_u32 count) body sum ∙ ap (λ (l : List ℕ). bytes_of_u32 count ++ (body ++ l)) (last end d four))
      ∙ sym (front_parts count body (bytes_of_u32 stored));
  count_fits = fits;
  stored_fits = fits';
}
  where
    last : (end : List ℕ) → sum ≡ bytes_of_u32 stored ++ end → length sum ≡ 4 → sum ≡ bytes_of_u32 stored
    last [] d four = d ∙ append-nil (bytes_of_u32 stored)
    last (x ∷ end) d four = absurd (omega (arith, four, ap length d, length-append (bytes_of_u32 stored) (x ∷ end), length-u32 stored))

pub front_cut : (bytes front : List ℕ) (count : ℕ) (body : List ℕ) (stored : ℕ) → IsFramed count body stored bytes → front ≡ take (length bytes - 4) bytes → front ≡ front_of count body
front_cut bytes front count body stored framed is =
    let long : length bytes - 4 ≡ length (front_of count body) = omega (arith, ap length framed.whole, length-append (front_of count body) (bytes_of_u32 stored), length-u32 stored) in
    is ∙ ap (λ (n : ℕ). take n bytes) long ∙ ap (take (length (front_of count body))) framed.whole ∙ take-append_seam (front_of count body) (bytes_of_u32 stored)

behind_head : (count count' : ℕ) (body body' : List ℕ) → front_of count body ≡ front_of count' body' → bytes_of_u32 count ++ body ≡ bytes_of_u32 count' ++ body'
unfolding front_of
behind_head count count' body body' e =
    append_cancel_left head (bytes_of_u32 count ++ body) (bytes_of_u32 count' ++ body') (sym (append_assoc head (bytes_of_u32 count) body) ∙ e ∙ append_assoc head (bytes_of_u32 count') body')

pub same_frame : (bytes : List ℕ) (count count' : ℕ) (body body' : List ℕ) (stored stored' : ℕ) → IsFramed count body stored bytes → IsFramed count' body' stored' bytes → (count ≡ count') × (body ≡ body') × (stored ≡ stored')
same_frame bytes count count' body body' stored stored' a b =
    let is : front_of count body ++ bytes_of_u32 stored ≡ front_of count' body' ++ bytes_of_u32 stored' = sym a.whole ∙ b.whole in
    let long : length (front_of count body) ≡ length (front_of count' body') =
    omega (arith, ap length is, length-append (front_of count body) (bytes_of_u32 stored), length-append (front_of count' body') (bytes_of_u32 stored'), length-u32 stored, length-u32 stored') in
    let split = same_split (front_of count body) (front_of count' body') (bytes_of_u32 stored) (bytes_of_u32 stored') long is in
    let behind : bytes_of_u32 count ++ body ≡ bytes_of_u32 count' ++ body' = behind_head count count' body body' split.0 in
    let parts = same_u32 count count' body body' a.count_fits b.count_fits behind in
    let sums = same_u32 stored stored' [] [] a.stored_fits b.stored_fits (append-nil (bytes_of_u32 stored) ∙ split.1 ∙ sym (append-nil (bytes_of_u32 stored'))) in
    (parts.0, parts.1, sums.0)

-- a file has its head
has_head : (bytes : List ℕ) (count : ℕ) (body : List ℕ) (stored : ℕ) → IsFramed count body stored bytes → HasNoHead bytes → ⊥
has_head bytes count body stored framed (inl short) =
    omega (arith, short, ap length framed.whole, length-append (front_of count body) (bytes_of_u32 stored), length-u32 stored, front_long count body)
has_head bytes count body stored framed (inr other) = other (bytes_of_u32 count ++ (body ++ bytes_of_u32 stored)) (framed.whole ∙ front_parts count body (bytes_of_u32 stored))

-- the body of a content's file
abbrev body_of : Content → List ℕ
body_of content = flat_map measurement_bytes content.measurements

pub file_framed : (content : Content) (bytes : List ℕ) → IsContent content → crc32_of (front_bytes content) < 2 ^ 32 → bytes ≡ file_of content
    → IsFramed (length content.measurements) (body_of content) (crc32_of (front_bytes content)) bytes
file_framed content bytes good fits is = record { whole = is; count_fits = good.count; stored_fits = fits }

-- ---- the body

-- more measurements than these can't stand where none may follow
no_more : (count : ℕ) (body : List ℕ) (xs ys : List MeasurementIds) (r : List ℕ) (cut : IsCutBehind count body xs) → AllByRecursion IsMeasurement ys → IsStrictlySortedBy (λ x y. name_cmp x.name y.name) ys
    → length ys ≤ count → length xs < length ys → body ≡ flat_map measurement_bytes ys ++ r → ⊥
no_more count body xs ys r cut good ascending within less is =
    let others = counted.front IsMeasurement (λ (m : MeasurementIds). m.name) name_cmp measurement_bytes nat_list_cmp_total same_measurement xs ys cut.rest r cut.good good (omega (arith, less)) (sym cut.whole ∙ is) in
    by others.0 others.1 others.2 cut.cut
  where
    by : (others : List MeasurementIds) → ys ≡ xs ++ others → cut.rest ≡ flat_map measurement_bytes others ++ r
        → ((length xs ≡ count) × (cut.rest ≢ [])) ⊎ ((length xs < count) × ((m : MeasurementIds) (more : List ℕ) → MayFollow xs m → cut.rest ≢ measurement_bytes m ++ more)) → ⊥
    by [] parts e either = omega (arith, less, ap length parts, length-append xs [])
    by (m ∷ others) parts e (inl all) = omega (arith, less, within, all.0)
    by (m ∷ others) parts e (inr none) =
        none.1 m (flat_map measurement_bytes others ++ r)
        (record {
          good = (all_right IsMeasurement xs (m ∷ others) (subst (AllByRecursion IsMeasurement) parts good)).0;
          behind = before_all (λ x y. name_cmp x.name y.name) xs m others (subst (IsStrictlySortedBy (λ (x y : MeasurementIds). name_cmp x.name y.name)) parts ascending);
        })
        (e ∙ append_assoc (measurement_bytes m) (flat_map measurement_bytes others) r)

within_count : (count : ℕ) (body : List ℕ) (xs : List MeasurementIds) → IsCutBehind count body xs → length xs ≤ count
within_count count body xs cut = by cut.cut
  where
    by : ((length xs ≡ count) × (cut.rest ≢ [])) ⊎ ((length xs < count) × ((m : MeasurementIds) (more : List ℕ) → MayFollow xs m → cut.rest ≢ measurement_bytes m ++ more)) → length xs ≤ count
    by (inl all) = omega (arith, all.0)
    by (inr less) = omega (arith, less.0)

same_cut : (count : ℕ) (body : List ℕ) (xs ys : List MeasurementIds) → IsCutBehind count body xs → IsCutBehind count body ys → xs ≡ ys
same_cut count body xs ys a b = by (cases_lt (length xs) (length ys)) (cases_lt (length ys) (length xs))
  where
    by : (length xs < length ys) ⊎ (length ys ≤ length xs) → (length ys < length xs) ⊎ (length xs ≤ length ys) → xs ≡ ys
    by (inl less) other = absurd (no_more count body xs ys b.rest a b.good b.ascending (within_count count body ys b) less b.whole)
    by (inr le) (inl less) = absurd (no_more count body ys xs a.rest b a.good a.ascending (within_count count body xs a) less a.whole)
    by (inr le) (inr ge) = (counted.same_items IsMeasurement (λ (m : MeasurementIds). m.name) name_cmp measurement_bytes nat_list_cmp_total same_measurement xs ys a.rest b.rest a.good b.good (omega (arith, le, ge)) (sym a.whole ∙ b.whole)).0

-- the bytes of a content are not cut
not_cut : (content : Content) (count : ℕ) (body : List ℕ) (xs : List MeasurementIds) → IsContent content → length content.measurements ≡ count → body ≡ body_of content → IsCutBehind count body xs → ⊥
not_cut content count body xs good many is cut = by cut.cut
  where
    by : ((length xs ≡ count) × (cut.rest ≢ [])) ⊎ ((length xs < count) × ((m : MeasurementIds) (more : List ℕ) → MayFollow xs m → cut.rest ≢ measurement_bytes m ++ more)) → ⊥
    by (inl all) =
        all.1
        (counted.same_items IsMeasurement (λ (m : MeasurementIds). m.name) name_cmp measurement_bytes nat_list_cmp_total same_measurement xs content.measurements cut.rest [] cut.good good.good (omega (arith, all.0, many))
        (sym cut.whole ∙ is ∙ sym (append-nil (body_of content)))).1
    by (inr less) =
        no_more count body xs content.measurements [] cut good.good good.ascending (omega (arith, many)) (omega (arith, many, less.0)) (is ∙ sym (append-nil (body_of content)))

-- ---- one reading

same_content_fields : (x y : Content) → x.measurements ≡ y.measurements → x ≡ y
same_content_fields x y e = λ i. record { measurements = e i }

pub one_content : (x y : Content) (bytes : List ℕ) → IsContent x → IsContent y → bytes ≡ file_of x → bytes ≡ file_of y → x ≡ y
one_content x y bytes a b is is' =
    let same = same_frame bytes (length x.measurements) (length y.measurements) (body_of x) (body_of y) (crc32_of (front_bytes x)) (crc32_of (front_bytes y))
    (file_framed x bytes a (crc32_fits (front_bytes x)) is) (file_framed y bytes b (crc32_fits (front_bytes y)) is') in
    same_content_fields x y
    (counted.same_items IsMeasurement (λ (m : MeasurementIds). m.name) name_cmp measurement_bytes nat_list_cmp_total same_measurement x.measurements y.measurements [] [] a.good b.good same.0 (ap (λ (l : List ℕ). l ++ []) same.1)).0

-- a right checksum is not a wrong one
right_sum : (bytes : List ℕ) (count count' : ℕ) (body body' : List ℕ) (stored : ℕ) → IsFramed count body stored bytes → HasWrongSum count body stored → IsFramed count' body' (crc32_of (front_of count' body')) bytes → ⊥
right_sum bytes count count' body body' stored framed wrong other =
    let same = same_frame bytes count count' body body' stored (crc32_of (front_of count' body')) framed other in
    wrong (same.2 ∙ sym (ap (λ (l : List ℕ). crc32_of (front_of count l)) same.1 ∙ ap (λ (n : ℕ). crc32_of (front_of n body')) same.0))

no_damage : (file : ℕ) (bytes : List ℕ) (content : Content) (damage : Damage) → Reads file bytes (Ok content) → Reads file bytes (Err damage) → ⊥
no_damage file bytes content damage good (inl wrong) = has_head bytes (length content.measurements) (body_of content) (crc32_of (front_bytes content)) (file_framed content bytes good.0 (crc32_fits (front_bytes content)) good.1) wrong.0
no_damage file bytes content damage good (inr (inl wrong)) =
    right_sum bytes wrong.0 (length content.measurements) wrong.1 (body_of content) wrong.2 wrong.3 wrong.4 (file_framed content bytes good.0 (crc32_fits (front_bytes content)) good.1)
no_damage file bytes content damage good (inr (inr wrong)) =
    let same = same_frame bytes (length content.measurements) wrong.0 (body_of content) wrong.1 (crc32_of (front_bytes content)) (crc32_of (front_of wrong.0 wrong.1)) (file_framed content bytes good.0 (crc32_fits (front_bytes content)) good.1) wrong.2 in
    not_cut content wrong.0 wrong.1 wrong.3.0 good.0 same.0 (sym same.1) wrong.3.1

one_damage : (file : ℕ) (bytes : List ℕ) (one other : Damage) → Reads file bytes (Err one) → Reads file bytes (Err other) → one ≡ other
one_damage file bytes one other (inl a) (inl b) = a.1 ∙ sym b.1
one_damage file bytes one other (inl a) (inr (inl b)) = absurd (has_head bytes b.0 b.1 b.2 b.3 a.0)
one_damage file bytes one other (inl a) (inr (inr b)) = absurd (has_head bytes b.0 b.1 (crc32_of (front_of b.0 b.1)) b.2 a.0)
one_damage file bytes one other (inr (inl a)) (inl b) = absurd (has_head bytes a.0 a.1 a.2 a.3 b.0)
one_damage file bytes one other (inr (inr a)) (inl b) = absurd (has_head bytes a.0 a.1 (crc32_of (front_of a.0 a.1)) a.2 b.0)
one_damage file bytes one other (inr (inl a)) (inr (inr b)) = absurd (right_sum bytes a.0 b.0 a.1 b.1 a.2 a.3 a.4 b.2)
one_damage file bytes one other (inr (inr a)) (inr (inl b)) = absurd (right_sum bytes b.0 a.0 b.1 a.1 b.2 b.3 b.4 a.2)
one_damage file bytes one other (inr (inl a)) (inr (inl b)) =
    let same = same_frame bytes a.0 b.0 a.1 b.1 a.2 b.2 a.3 b.3 in
    a.5 ∙ ap (λ (n : ℕ). named n a.1 a.2) same.0 ∙ ap (λ (l : List ℕ). named b.0 l a.2) same.1 ∙ ap (λ (n : ℕ). named b.0 b.1 n) same.2 ∙ sym b.5
  where
    named : ℕ → List ℕ → ℕ → Damage
    named count body stored = record { file = file; offset = length (front_of count body); why = Sum stored (crc32_of (front_of count body)) }
one_damage file bytes one other (inr (inr a)) (inr (inr b)) =
    let same = same_frame bytes a.0 b.0 a.1 b.1 (crc32_of (front_of a.0 a.1)) (crc32_of (front_of b.0 b.1)) a.2 b.2 in
    let cut = same_cut b.0 b.1 a.3.0 b.3.0 (subst (λ (n : ℕ). IsCutBehind n b.1 a.3.0) same.0 (subst (λ (l : List ℕ). IsCutBehind a.0 l a.3.0) same.1 a.3.1)) b.3.1 in
    a.3.2 ∙ ap (λ (xs : List MeasurementIds). record { file = file; offset = 9 + length (flat_map measurement_bytes xs); why = Body }) cut ∙ sym b.3.2

pub one_reading : (file : ℕ) (bytes : List ℕ) (one other : Result Content Damage) → Reads file bytes one → Reads file bytes other → one ≡ other
one_reading file bytes (Ok x) (Ok y) a b = ap Ok (one_content x y bytes a.0 b.0 a.1 b.1)
one_reading file bytes (Ok x) (Err d) a b = absurd (no_damage file bytes x d a b)
one_reading file bytes (Err d) (Ok y) a b = absurd (no_damage file bytes y d b a)
one_reading file bytes (Err d) (Err e) a b = ap Err (one_damage file bytes d e a b)

pub answers : (file : ℕ) (bytes : List ℕ) (result : Result Content FormatFault) → IfOk result (λ content. Reads file bytes (Ok content))
    → ((damage : Damage) → result ≡ Err (Damaged damage) → Reads file bytes (Err damage)) → (answer : Result Content Damage) → Reads file bytes answer → Answers result answer
answers file bytes (Ok content) found damaged answer reads = one_reading file bytes answer (Ok content) reads found
answers file bytes (Err (Damaged damage)) found damaged answer reads = sym (one_reading file bytes (Err damage) answer (damaged damage refl) reads)
answers file bytes (Err Memory) found damaged answer reads = tt

abbrev pub refusal : FormatFault → Result Content FormatFault
refusal fault = Err fault

-- what a call names is what it was given
named_is : (answer : FormatFault) (damage given : Damage) → answer ≡ Damaged given → refusal answer ≡ refusal (Damaged damage) → damage ≡ given
named_is answer damage given is e = cc

-- damage at the place where these measurements end
pub damaged_here : (file count : ℕ) (body rest : List ℕ) (done : List MeasurementIds) (at : ℕ) (answer : FormatFault) (damage : Damage) → length body - length rest ≡ length (flat_map measurement_bytes done)
    → at ≡ 9 + (length body - length rest) → answer ≡ Damaged (record { file = file; offset = at; why = Body }) → refusal answer ≡ refusal (Damaged damage) → IsCutBehind count body done → IsDamagedBody file count body damage
damaged_here file count body rest done at answer damage place here is e cut =
    (done, cut, named_is answer damage (record { file = file; offset = at; why = Body }) is e ∙ ap (λ (n : ℕ). record { file = file; offset = n; why = Body }) (here ∙ ap (λ (n : ℕ). 9 + n) place))
