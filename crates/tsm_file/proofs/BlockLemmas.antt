-- A block as it stands behind its checksum.
use Rattle.std.proofs.Common.{◌≡◌, ◌≢◌, ℕ, ◌+◌, ◌<◌, ◌^◌, ℤ, ◌≤ℤ◌, List, [], ◌∷◌, ◌++◌, length, take, drop, get_or, Result, Err, inl, inr, refl, sym, ap, ◌∙◌, subst, arith}
use Rattle.std.specs.List.{AllByRecursion, All}
use Rattle.std.proofs.lemmas.Int.{ints}
use Rattle.std.proofs.lemmas.List.{length-append, take_at, drop_at}
use Rattle.fixed_width.specs.Fields.{bytes_of_u32}
use Rattle.fixed_width.proofs.Fronts.{same_u32, length-u32}
use Rattle.shard_disk.specs.declared.damage.Damage.{Damage}
use Rattle.shard_disk.specs.declared.damage.FormatFault.{FormatFault}
use Rattle.shard_disk.specs.declared.damage.FormatFault.TheVariants.{Damaged}
use Rattle.shard_disk.specs.declared.damage.Why.TheVariants.{Sum, Block}
use Rattle.tsdb_types.specs.declared.block.BlockFault.{BlockFault}
use Rattle.tsdb_types.specs.declared.block.BlockFault.TheVariants.{BadKind, BadBlock, Memory}
use Rattle.tsdb_types.specs.declared.value.Kind.{Kind}
use Rattle.tsdb_types.specs.declared.value.Value.{Value}
use Rattle.word_codec.specs.Crc32.{crc32_of}
use Rattle.time_codec.specs.Times.{Ascend}
use Rattle.value_codec.specs.Coding.{AreOf, IsInRange}
use Rattle.block_codec.specs.Blocks.{ArePoints, IsBlock, coded_block, times_of, values_of}
use Rattle.tsm_format.specs.declared.entry.Entry.{Entry}
use Rattle.tombstones.proofs.RangeLemmas.{all-weaker}
use Rattle.point_model.specs.Rows.{Row}
use Rattle.tsm_file.specs.ReadBlocks.{BeginsAs, EndsAt, HasOtherSum, IsBlockOf, IsWrong, Spans, last_time}

-- ---- the parts of what is held

-- fronts of four bytes are of one length, so the rest is one
same_rest : (s t : ℕ) (a b : List ℕ) → bytes_of_u32 s ++ a ≡ bytes_of_u32 t ++ b → (bytes_of_u32 s ≡ bytes_of_u32 t) × (a ≡ b)
same_rest s t a b e =
    let first = ap (take 4) e in
    let rest = ap (drop 4) e in
    let len = length-u32 s in
    let len' = length-u32 t in (
      sym (take_at (bytes_of_u32 s) a 4 len) ∙ first ∙ take_at (bytes_of_u32 t) b 4 len',
      sym (drop_at (bytes_of_u32 s) a 4 len) ∙ rest ∙ drop_at (bytes_of_u32 t) b 4 len',
    )

same_sum : (s t : ℕ) → s < 2 ^ 32 → t < 2 ^ 32 → bytes_of_u32 s ≡ bytes_of_u32 t → s ≡ t
same_sum s t a b e = (same_u32 s t [] [] a b (ap (λ (l : List ℕ). l ++ []) e)).0

-- what the held bytes have behind the checksum that was read
pub record IsHeld (held : List ℕ) (stored : ℕ) (block : List ℕ) : Type 0 where
  pub fits : stored < 2 ^ 32
  pub parts : held ≡ bytes_of_u32 stored ++ block

block_is : (kind : Kind) (entry : Entry) (held block : List ℕ) (stored : ℕ) (points : List Row) → IsHeld held stored block → IsBlockOf kind entry held points → block ≡ coded_block kind points
block_is kind entry held block stored points h b = (same_rest stored (crc32_of (coded_block kind points)) block (coded_block kind points) (sym h.parts ∙ b.stored)).1

pub is_block : (kind : Kind) (entry : Entry) (held block : List ℕ) (stored : ℕ) (points : List Row) → IsHeld held stored block → IsBlockOf kind entry held points → IsBlock block points
is_block kind entry held block stored points h b = record { kind = kind; points_are = b.are_points; spelled = sym (block_is kind entry held block stored points h b) }

-- a checksum that differs is that of no block
pub sum_of_none : (kind : Kind) (entry : Entry) (held block : List ℕ) (stored computed : ℕ) (points : List Row) → IsHeld held stored block → computed < 2 ^ 32 → computed ≡ crc32_of block
    → stored ≢ computed → IsBlockOf kind entry held points → ⊥
sum_of_none kind entry held block stored computed points h fits is other b =
    let same = same_rest stored (crc32_of (coded_block kind points)) block (coded_block kind points) (sym h.parts ∙ b.stored) in
    let sum : computed ≡ crc32_of (coded_block kind points) = is ∙ ap crc32_of same.1 in
    other (same_sum stored computed h.fits fits (same.0 ∙ ap bytes_of_u32 (sym sum)))

-- ---- what is wrong

pub cut_is_none : (kind : Kind) (entry : Entry) (held : List ℕ) (points : List Row) → length held < 4 → IsBlockOf kind entry held points → ⊥
cut_is_none kind entry held points short block =
    let coded = coded_block kind points in
    let len = ap length block.stored ∙ length-append (bytes_of_u32 (crc32_of coded)) coded in
    let four = length-u32 (crc32_of coded) in
    absurd (omega arith)

inner : {T : Type 0} (a b : FormatFault) → ◌≡◌ {A = Result T FormatFault} (Err a) (Err b) → a ≡ b
inner a b e = cc

-- the damage that an error told
pub same_told : {T : Type 0} (told : FormatFault) (own damage : Damage) → told ≡ Damaged own → ◌≡◌ {A = Result T FormatFault} (Err told) (Err (Damaged damage)) → own ≡ damage
same_told told own damage is same = let e : Damaged own ≡ Damaged damage = sym is ∙ inner told (Damaged damage) same in cc

pub cut_is_wrong : (file : ℕ) (kind : Kind) (entry : Entry) (held : List ℕ) → length held < 4 → IsWrong file kind entry held (record { file = file; offset = entry.offset; why = Block })
cut_is_wrong file kind entry held short = inr (
  λ stored computed other. let len = ap length other.parts ∙ length-append (bytes_of_u32 stored) other.behind in let four = length-u32 stored in absurd (omega arith),
  λ points block. cut_is_none kind entry held points short block,
  refl,
)

pub sum_is_wrong : (file : ℕ) (kind : Kind) (entry : Entry) (held block : List ℕ) (stored computed : ℕ) → IsHeld held stored block → computed ≡ crc32_of block → stored ≢ computed
    → IsWrong file kind entry held (record { file = file; offset = entry.offset; why = Sum stored computed })
sum_is_wrong file kind entry held block stored computed h is other =
    inl (stored, computed, record { behind = block; fits = h.fits; parts = h.parts; is = sym is; other = other }, refl)

no_other_sum : (held block : List ℕ) (stored : ℕ) → IsHeld held stored block → stored ≡ crc32_of block → (s c : ℕ) → HasOtherSum held s c → ⊥
no_other_sum held block stored h is s c other =
    let same = same_u32 stored s block other.behind h.fits other.fits (sym h.parts ∙ other.parts) in
    other.other (sym same.0 ∙ is ∙ ap crc32_of same.1 ∙ other.is)

pub block_is_wrong : (file : ℕ) (kind : Kind) (entry : Entry) (held block : List ℕ) (stored : ℕ) → IsHeld held stored block → stored ≡ crc32_of block
    → ((points : List Row) → IsBlockOf kind entry held points → ⊥) → IsWrong file kind entry held (record { file = file; offset = entry.offset; why = Block })
block_is_wrong file kind entry held block stored h is none = inr (no_other_sum held block stored h is, none, refl)

-- ---- the kind and the times

last_at : (p : Row) (ps : List Row) (d : Row) → last_time p.0 ps ≡ (get_or (p ∷ ps) (length ps) d).0
last_at p [] d = refl
last_at p (q ∷ qs) d = last_at q qs d

pub begins_as : (kind : Kind) (entry : Entry) (points : List Row) → AreOf kind (values_of points) → Spans entry points → BeginsAs kind points
begins_as kind entry [] alike spans = spans.0
begins_as kind entry (p ∷ ps) alike spans = alike 0 p.1 (omega arith)

same_kind : (kind other : Kind) (points : List Row) → AreOf other (values_of points) → BeginsAs kind points → other ≡ kind
same_kind kind other [] alike begins = absurd begins
same_kind kind other (p ∷ ps) alike begins = sym (alike 0 p.1 (omega arith)) ∙ begins

-- the last of the points is the one at the last place
pub ends-at : (time : ℤ) (point : Row) (points : List Row) (place : ℕ) → place + 1 ≡ length points → point ≡ get_or points place point → ((point.0 ≡ time) → EndsAt time points) × (EndsAt time points → point.0 ≡ time)
ends-at time point [] place len is = absurd (omega arith)
ends-at time point (p ∷ ps) place len is =
    let same : last_time p.0 ps ≡ point.0 = last_at p ps point ∙ ap (λ (n : ℕ). (get_or (p ∷ ps) n point).0) (omega arith) ∙ sym (ap (λ (r : Row). r.0) is) in
    (λ e. same ∙ e, λ e. sym same ∙ e)

-- what was decoded and agrees with the entry is the block
pub block_of : (kind : Kind) (entry : Entry) (held block : List ℕ) (stored : ℕ) (points : List Row) → IsHeld held stored block → stored ≡ crc32_of block → IsBlock block points
    → All IsInRange (values_of points) → BeginsAs kind points → Spans entry points → IsBlockOf kind entry held points
block_of kind entry held block stored points h is b range begins spans =
    let kinds : b.kind ≡ kind = same_kind kind b.kind points b.points_are.alike begins in
    let coded : coded_block kind points ≡ block = ap (λ (k : Kind). coded_block k points) (sym kinds) ∙ b.spelled in
    record {
      stored = h.parts ∙ ap (λ (s : ℕ). bytes_of_u32 s ++ block) is ∙ ap (λ (l : List ℕ). bytes_of_u32 (crc32_of l) ++ l) (sym coded);
      are_points = subst (λ (k : Kind). ArePoints k points) kinds b.points_are;
      in_range = range;
      spans = spans;
    }

-- a refusal has one cause
pub bad_kind_alone : (f : BlockFault) (byte : ℕ) → f ≡ BadKind byte → f ≡ Memory → ⊥
bad_kind_alone f byte e m = let both : BadKind byte ≡ Memory = sym e ∙ m in cc

pub bad_block_alone : (f : BlockFault) → f ≡ BadBlock → f ≡ Memory → ⊥
bad_block_alone f e m = let both : BadBlock ≡ Memory = sym e ∙ m in cc

-- what was decoded and doesn't agree with the entry is no block of it
pub not_agreed : (kind : Kind) (entry : Entry) (held : List ℕ) (found points : List Row) → (BeginsAs kind found × Spans entry found → ⊥) → found ≡ points → IsBlockOf kind entry held points → ⊥
not_agreed kind entry held found points differs same block =
    differs (subst (λ (ps : List Row). BeginsAs kind ps × Spans entry ps) (sym same) (begins_as kind entry points block.are_points.alike block.spans, block.spans))

-- ---- all points of a block lie between its first and its last time

pub times_between : (time : ℤ) (value : Value) (points : List Row) → Ascend (times_of ((time, value) ∷ points))
    → AllByRecursion (λ (p : Row). (time ≤ℤ p.0) × (p.0 ≤ℤ last_time time points)) ((time, value) ∷ points)
times_between time value [] up = ((omega (arith, ints), omega (arith, ints)), tt)
times_between time value (q ∷ qs) up =
    let rest = times_between q.0 q.1 qs up.1 in
    let first = up.0 in
    let last = rest.0.1 in (
      (omega (arith, ints), omega (arith, ints)),
      all-weaker (λ (p : Row). (q.0 ≤ℤ p.0) × (p.0 ≤ℤ last_time q.0 qs)) (λ (p : Row). (time ≤ℤ p.0) × (p.0 ≤ℤ last_time q.0 qs)) (λ p h. (let low = h.0 in omega (arith, ints), h.1)) (q ∷ qs) rest,
    )

pub within_entry : (kind : Kind) (entry : Entry) (held : List ℕ) (points : List Row) → IsBlockOf kind entry held points → AllByRecursion (λ (p : Row). (entry.min ≤ℤ p.0) × (p.0 ≤ℤ entry.max)) points
within_entry kind entry held [] b = absurd b.spans.0
within_entry kind entry held (p ∷ ps) b =
    let all = times_between p.0 p.1 ps b.are_points.times.ascend in
    let first = b.spans.0 in
    let last = b.spans.1 in
    all-weaker (λ (q : Row). (p.0 ≤ℤ q.0) × (q.0 ≤ℤ last_time p.0 ps)) (λ (q : Row). (entry.min ≤ℤ q.0) × (q.0 ≤ℤ entry.max))
    (λ q h. (subst (λ (t : ℤ). t ≤ℤ q.0) first h.0, subst (λ (t : ℤ). q.0 ≤ℤ t) last h.1)) (p ∷ ps) all
