-- Files grow by a block, by a point, and by a key.
use Rattle.std.proofs.Common.{◌≡◌, ℕ, ℤ, ◌+◌, ◌*◌, ◌<◌, ◌≤◌, ◌^◌, ◌≤ℤ◌, ◌<ℤ◌, List, [], ◌∷◌, ◌++◌, length, Option, Some, None, refl, sym, ap, ◌∙◌, subst, arith, rules}
use Rattle.std.specs.Prelude.{All}
use Rattle.std.specs.List.{flat_map, last_or}
use Rattle.std.proofs.lemmas.Int.{ints}
use Rattle.std.proofs.lemmas.List.{append_assoc, append-nil, length-append, length-map, map-append}
use Rattle.std.proofs.lemmas.List.Concat.{flat_map-append}
use Rattle.std.proofs.lemmas.List.Elements.{All-cons, All-head, All-nil, All-push, All-tail}
use Rattle.fixed_width.specs.Fields.{bytes_of_u32}
use Rattle.fixed_width.proofs.Fronts.{length-u32}
use Rattle.tsdb_types.specs.Moments.{IsMoment}
use Rattle.tsdb_types.specs.Values.{kind_of}
use Rattle.tsdb_types.specs.declared.value.Kind.{Kind}
use Rattle.word_codec.specs.Crc32.{crc32_of}
use Rattle.time_codec.specs.Times.{Ascend}
use Rattle.value_codec.specs.Coding.{AreOf, IsInRange}
use Rattle.block_codec.specs.Blocks.{coded_block, times_of, values_of}
use Rattle.tsm_format.specs.declared.entry.Entry.{Entry}
use Rattle.tsm_format.specs.declared.row.KeyRow.{KeyRow}
use Rattle.tsm_format.specs.Rows.{AreEntries, IsEntry, IsLater, size_of, sizes_of}
use Rattle.tsm_format.proofs.EntryLemmas.{entries_push as entries_more, last_time as time_before}
use Rattle.point_model.specs.Rows.{Row}
use Rattle.tsm_file.specs.ReadBlocks.{last_time}
use Rattle.tsm_file.specs.Written.{IsHeld, KeyBlocks, KeyedPoint, all_blocks, block_bytes, entries_of, entry_of, first_time, joined, key_bytes, keyed, row_of, rows_of}
use Rattle.tsm_file.specs.Writing.{count_of, end_time}
use Rattle.std.proofs.lemmas.Cmp.{nat_list_eq_equiv}
use Rattle.std.proofs.Common.{cond, Bool}
use Rattle.std.specs.Str.{bytes_eq}
use Rattle.std.proofs.lemmas.List.Sums.{sum_by-append}

-- ---- places

pub entries-push : (kind : Kind) (place : ℕ) (full : List (List Row)) (block : List Row)
    → entries_of kind place (full ++ (block ∷ [])) ≡ entries_of kind place full ++ (entry_of kind (place + length (flat_map (block_bytes kind) full)) block ∷ [])
entries-push kind place [] block = ap (λ (n : ℕ). entry_of kind n block ∷ []) (omega arith)
entries-push kind place (x ∷ full) block =
    let next = place + length (block_bytes kind x) in
    let sum = length-append (block_bytes kind x) (flat_map (block_bytes kind) full) in
    ap (λ (l : List Entry). entry_of kind place x ∷ l) (entries-push kind next full block)
    ∙ ap (λ (n : ℕ). entry_of kind place x ∷ (entries_of kind next full ++ (entry_of kind n block ∷ []))) (omega arith)

pub size-entries : (kind : Kind) (place : ℕ) (full : List (List Row)) → size_of (entries_of kind place full) ≡ length (flat_map (block_bytes kind) full)
size-entries kind place [] = refl
size-entries kind place (x ∷ full) =
    let rest = size-entries kind (place + length (block_bytes kind x)) full in
    let sum = length-append (block_bytes kind x) (flat_map (block_bytes kind) full) in
    omega arith

pub length-entries : (kind : Kind) (place : ℕ) (full : List (List Row)) → length (entries_of kind place full) ≡ length full
length-entries kind place [] = refl
length-entries kind place (x ∷ full) = let rest = length-entries kind (place + length (block_bytes kind x)) full in omega arith

pub rows-push : (place : ℕ) (keys : List KeyBlocks) (one : KeyBlocks) → rows_of place (keys ++ (one ∷ [])) ≡ rows_of place keys ++ (row_of (place + length (all_blocks keys)) one ∷ [])
rows-push place [] one = ap (λ (n : ℕ). row_of n one ∷ []) (omega arith)
rows-push place (x ∷ keys) one =
    let next = place + length (key_bytes x) in
    let sum = length-append (key_bytes x) (all_blocks keys) in
    ap (λ (l : List KeyRow). row_of place x ∷ l) (rows-push next keys one)
    ∙ ap (λ (n : ℕ). row_of place x ∷ (rows_of next keys ++ (row_of n one ∷ []))) (omega arith)

pub sizes-rows : (place : ℕ) (keys : List KeyBlocks) → sizes_of (rows_of place keys) ≡ length (all_blocks keys)
sizes-rows place [] = refl
sizes-rows place (x ∷ keys) =
    let rest = sizes-rows (place + length (key_bytes x)) keys in
    let own = size-entries x.kind place x.blocks in
    let sum = length-append (key_bytes x) (all_blocks keys) in
    omega arith

-- one more at the end of a list that is mapped to lists
pub flat-push : {X A : Type 0} (f : X → List A) (xs : List X) (x : X) → flat_map f (xs ++ (x ∷ [])) ≡ flat_map f xs ++ f x
flat-push f xs x = flat_map-append f xs (x ∷ []) ∙ ap (λ l. flat_map f xs ++ l) (append-nil (f x))

-- ---- the entry of a block

block_long : (kind : Kind) (block : List Row) → 4 ≤ length (block_bytes kind block)
unfolding block_bytes
block_long kind block =
    let sum = length-append (bytes_of_u32 (crc32_of (coded_block kind block))) (coded_block kind block) in
    let four = length-u32 (crc32_of (coded_block kind block)) in
    omega arith

last_moment : (time : ℤ) (points : List Row) → IsMoment time → All IsMoment (times_of points) → IsMoment (last_time time points)
last_moment time [] is all = is
last_moment time (p ∷ ps) is all = last_moment p.0 ps (All-head IsMoment p.0 (times_of ps) all) (All-tail IsMoment p.0 (times_of ps) all)

same_or_later : (x : ℤ) → x ≤ℤ x
same_or_later x = search (arith, rules, ints)

then_later : (x y z : ℤ) → x <ℤ y → y ≤ℤ z → x ≤ℤ z
then_later x y z h k = omega (arith, ints)

last_behind : (time : ℤ) (points : List Row) → Ascend (time ∷ times_of points) → time ≤ℤ last_time time points
last_behind time [] a = same_or_later time
last_behind time (p ∷ ps) a = then_later time p.0 (last_time p.0 ps) a.0 (last_behind p.0 ps a.1)

pub entry_is : (kind : Kind) (place : ℕ) (block : List Row) → IsHeld kind block → place < 2 ^ 64 → length (block_bytes kind block) < 2 ^ 32 → IsEntry place (entry_of kind place block)
entry_is kind place [] held within short = let some = held.are_points.times.some in absurd (omega arith)
entry_is kind place (p ∷ ps) held within short =
    let first = All-head IsMoment p.0 (times_of ps) held.are_points.times.moments in
    record {
      at = refl;
      held = within;
      long = block_long kind (p ∷ ps);
      fits = short;
      first = first;
      last = last_moment p.0 ps first (All-tail IsMoment p.0 (times_of ps) held.are_points.times.moments);
      order = last_behind p.0 ps held.are_points.times.ascend;
    }

same_end : (last : Option ℤ) (entries : List Entry) → end_time last entries ≡ time_before last entries
same_end last [] = refl
same_end last (x ∷ xs) = same_end (Some x.max) xs

pub end_time-push : (last : Option ℤ) (entries : List Entry) (entry : Entry) → end_time last (entries ++ (entry ∷ [])) ≡ Some entry.max
end_time-push last [] entry = refl
end_time-push last (x ∷ xs) entry = end_time-push (Some x.max) xs entry

-- one more block behind those of a key
pub more_entries : (at : ℕ) (entries : List Entry) (entry : Entry) → AreEntries None at entries → IsEntry (at + size_of entries) entry → IsLater (end_time None entries) entry.min → AreEntries None at (entries ++ (entry ∷ []))
more_entries at entries entry are is later = entries_more None at entries entry are is (subst (λ (t : Option ℤ). IsLater t entry.min) (same_end None entries) later)

-- ---- one more point

last_time-push : (time : ℤ) (points : List Row) (next : Row) → last_time time (points ++ (next ∷ [])) ≡ next.0
last_time-push time [] next = refl
last_time-push time (p ∷ ps) next = last_time-push p.0 ps next

ascend_push : (time : ℤ) (points : List Row) (next : Row) → Ascend (time ∷ times_of points) → last_time time points <ℤ next.0 → Ascend (time ∷ times_of (points ++ (next ∷ [])))
ascend_push time [] next a h = (h, tt)
ascend_push time (p ∷ ps) next a h = (a.0, ascend_push p.0 ps next a.1 h)

pub held_one : (kind : Kind) (next : Row) → IsMoment next.0 → kind_of next.1 ≡ kind → IsInRange next.1 → IsHeld kind (next ∷ [])
held_one kind next moment alike range = record {
  are_points = record {
    times = record { some = omega arith; most = omega arith; moments = All-cons IsMoment next.0 [] moment (All-nil IsMoment); ascend = tt };
    alike = All-cons (λ value. kind_of value ≡ kind) next.1 [] alike (All-nil (λ value. kind_of value ≡ kind));
  };
  in_range = All-cons IsInRange next.1 [] range (All-nil IsInRange);
}

values_push : (points : List Row) (next : Row) → values_of (points ++ (next ∷ [])) ≡ values_of points ++ (next.1 ∷ [])
values_push points next = map-append (λ (point : Row). point.1) points (next ∷ [])

times_push : (points : List Row) (next : Row) → times_of (points ++ (next ∷ [])) ≡ times_of points ++ (next.0 ∷ [])
times_push points next = map-append (λ (point : Row). point.0) points (next ∷ [])

pub held_more : (kind : Kind) (points : List Row) (next : Row) → IsHeld kind points → length points < 1000 → last_time (first_time points) points <ℤ next.0 → IsMoment next.0 → kind_of next.1 ≡ kind → IsInRange next.1
    → IsHeld kind (points ++ (next ∷ []))
held_more kind [] next held few later moment alike range = held_one kind next moment alike range
held_more kind (p ∷ ps) next held few later moment alike range =
    let len = length-map ((p ∷ ps) ++ (next ∷ [])) (λ (point : Row). point.0) in
    let sum = length-append (p ∷ ps) (next ∷ []) in
    record {
      are_points = record {
        times = record {
          some = omega arith;
          most = omega arith;
          moments = subst (All IsMoment) (sym (times_push (p ∷ ps) next)) (All-push IsMoment (times_of (p ∷ ps)) next.0 held.are_points.times.moments moment);
          ascend = ascend_push p.0 ps next held.are_points.times.ascend later;
        };
        alike = subst (AreOf kind) (sym (values_push (p ∷ ps) next)) (All-push (λ value. kind_of value ≡ kind) (values_of (p ∷ ps)) next.1 held.are_points.alike alike);
      };
      in_range = subst (All IsInRange) (sym (values_push (p ∷ ps) next)) (All-push IsInRange (values_of (p ∷ ps)) next.1 held.in_range range);
    }

pub first_time-push : (kind : Kind) (points : List Row) (next : Row) → IsHeld kind points → first_time (points ++ (next ∷ [])) ≡ first_time points
first_time-push kind [] next held = let some = held.are_points.times.some in absurd (omega arith)
first_time-push kind (p ∷ ps) next held = refl

pub held_some : (kind : Kind) (points : List Row) → IsHeld kind points → 1 ≤ length points
held_some kind points held = let some = held.are_points.times.some in let len = length-map points (λ (point : Row). point.0) in omega arith

pub held_most : (kind : Kind) (points : List Row) → IsHeld kind points → length points ≤ 1000
held_most kind points held = let most = held.are_points.times.most in let len = length-map points (λ (point : Row). point.0) in omega arith

-- ---- points under keys

pub keyed-push : (key : List ℕ) (points : List Row) (next : Row) → keyed key (points ++ (next ∷ [])) ≡ keyed key points ++ (record { key = key; time = next.0; value = next.1 } ∷ [])
keyed-push key points next = map-append _ points (next ∷ [])

pub length-keyed : (key : List ℕ) (points : List Row) → length (keyed key points) ≡ length points
length-keyed key points = length-map points _

abbrev one_if : Bool → ℕ
one_if b = cond b 1 0

count-keyed : (key : List ℕ) (points : List Row) → count_of key (keyed key points) ≡ length points
count-keyed key [] = refl
count-keyed key (p ∷ ps) =
    let rest = count-keyed key ps in
    let own : one_if (bytes_eq key key) ≡ 1 = ap one_if (nat_list_eq_equiv.refl key) in
    let first : KeyedPoint = record { key = key; time = p.0; value = p.1 } in
    let sum = sum_by-append (λ (point : KeyedPoint). one_if (bytes_eq point.key key)) (first ∷ []) (keyed key ps) in
    omega arith

-- of points that end so, as many have the key at least
pub count_at_least : (key : List ℕ) (before : List KeyedPoint) (points : List Row) → length points ≤ count_of key (before ++ keyed key points)
count_at_least key before points =
    let sum = sum_by-append (λ (point : KeyedPoint). one_if (bytes_eq point.key key)) before (keyed key points) in
    let own = count-keyed key points in
    omega arith

pub last_or-append : {A : Type 0} (o : Option A) (xs ys : List A) → last_or o (xs ++ ys) ≡ last_or (last_or o xs) ys
last_or-append o [] ys = refl
last_or-append o (x ∷ xs) ys = last_or-append (Some x) xs ys

-- the last of the points under a key
pub record HasLast (key : List ℕ) (kind : Kind) (points : List Row) (last : Option KeyedPoint) : Type 0 where
  pub point : Row
  pub is : last ≡ Some (record { key = key; time = point.0; value = point.1 })
  pub time : point.0 ≡ last_time (first_time points) points
  pub alike : kind_of point.1 ≡ kind

last_from : (key : List ℕ) (kind : Kind) (p : Row) (ps : List Row) → AreOf kind (values_of (p ∷ ps)) → HasLast key kind (p ∷ ps) (last_or (Some (record { key = key; time = p.0; value = p.1 })) (keyed key ps))
last_from key kind p [] alike = record { point = p; is = refl; time = refl; alike = All-head (λ value. kind_of value ≡ kind) p.1 [] alike }
last_from key kind p (q ∷ qs) alike =
    let rest = last_from key kind q qs (All-tail (λ value. kind_of value ≡ kind) p.1 (values_of (q ∷ qs)) alike) in
    record { point = rest.point; is = rest.is; time = rest.time; alike = rest.alike }

last_own : (key : List ℕ) (kind : Kind) (points : List Row) (o : Option KeyedPoint) → IsHeld kind points → HasLast key kind points (last_or o (keyed key points))
last_own key kind [] o held = let some = held.are_points.times.some in absurd (omega arith)
last_own key kind (p ∷ ps) o held = last_from key kind p ps held.are_points.alike

pub last_is : (key : List ℕ) (kind : Kind) (before : List KeyedPoint) (earlier points : List Row) → IsHeld kind points → HasLast key kind points (last_or None (before ++ keyed key (earlier ++ points)))
last_is key kind before earlier points held =
    let split : before ++ keyed key (earlier ++ points) ≡ (before ++ keyed key earlier) ++ keyed key points =
    ap (λ (l : List KeyedPoint). before ++ l) (map-append _ earlier points) ∙ sym (append_assoc before (keyed key earlier) (keyed key points)) in
    let whole : last_or None (before ++ keyed key (earlier ++ points)) ≡ last_or (last_or None (before ++ keyed key earlier)) (keyed key points) =
    ap (last_or None) split ∙ last_or-append None (before ++ keyed key earlier) (keyed key points) in
    subst (HasLast key kind points) (sym whole) (last_own key kind points (last_or None (before ++ keyed key earlier)) held)

-- full blocks hold so many points
pub length-joined : (full : List (List Row)) → All (λ block. length block ≡ 1000) full → length (joined full) ≡ 1000 * length full
length-joined [] each = refl
length-joined (x ∷ full) each =
    let own = All-head (λ (block : List Row). length block ≡ 1000) x full each in
    let rest = length-joined full (All-tail (λ (block : List Row). length block ≡ 1000) x full each) in
    let sum = length-append x (joined full) in
    omega arith
