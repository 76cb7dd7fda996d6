-- A file has its own index, and each key its own points.
use Rattle.std.proofs.Common.{Option, None, Some, ◌⊎◌, ⊎_elim, Bool, true, false, cond, map, ◌≡◌, ◌≢◌, ℕ, suc, ◌+◌, List, [], ◌∷◌, ◌++◌, length, take, drop, get_or, inl, inr, refl, sym, ap, ◌∙◌, subst, arith}
use Rattle.std.specs.Prelude.{All, Contains, filter}
use Rattle.std.specs.Bool.{Decides}
use Rattle.std.specs.Ordering.{is_eq, nat_cmp}
use Rattle.std.specs.Str.{bytes_eq}
use Rattle.std.specs.declared.cmp.Ordering.TheVariants.{Less}
use Rattle.std.specs.Cmp.Lexicographic.{slice_cmp, nat_list_cmp_total}
use Rattle.std.proofs.lemmas.Bool.{false≢true}
use Rattle.std.proofs.lemmas.Cmp.{nat_list_eq_equiv}
use Rattle.std.proofs.lemmas.Map.Text.{is_eq-slice_cmp}
use Rattle.std.proofs.lemmas.Slice.Eq.{bytes_eq-Decides}
use Rattle.std.specs.List.{flat_map}
use Rattle.std.proofs.lemmas.List.{append_assoc, append-nil, length-append, map-append, take_at, drop_at}
use Rattle.std.proofs.lemmas.List.Elements.{All-cons, All-head, All-nil, All-tail, filter-append}
use Rattle.fixed_width.specs.Fields.{bytes_of_u32, bytes_of_u64}
use Rattle.shard_disk.specs.Directory.{bytes_at}
use Rattle.tsdb_types.specs.declared.value.Kind.{Kind}
use Rattle.word_codec.specs.Crc32.{crc32_of}
use Rattle.block_codec.specs.Blocks.{coded_block}
use Rattle.tsm_format.specs.declared.row.KeyRow.{KeyRow}
use Rattle.tsm_format.specs.Format.{index_bytes}
use Rattle.tsm_format.specs.Frame.{header}
use Rattle.tsm_format.specs.Rows.{AreIndex, AreRows, end_of, first_block}
use Rattle.point_model.specs.Rows.{Row}
use Rattle.tsm_file.specs.declared.facts.TsmFacts.{TsmFacts}
use Rattle.tsm_file.specs.Writing.{IsOutput, IsReadBack}
use Rattle.tsm_file.specs.ReadIndex.{Index, HasIndex, HasKey, LacksKey}
use Rattle.tsm_file.specs.ReadBlocks.{HavePoints, IsBlockOf, KeyHas, Spans, held_at}
use Rattle.tsm_file.specs.Written.{IsFile, IsHeld, KeyBlocks, KeyedPoint, all_blocks, all_points, keyed, points_under, block_bytes, entries_of, entry_of, index_at, joined, key_bytes, row_of, rows_of}
use Rattle.tsm_file.proofs.WrittenLemmas.{size-entries, sizes-rows}

end_is : (keys : List KeyBlocks) → end_of (rows_of first_block keys) ≡ index_at keys
end_is keys = let sizes = sizes-rows first_block keys in omega arith

pub has_index : (bytes : List ℕ) (keys : List KeyBlocks) → IsFile bytes keys → HasIndex bytes (rows_of first_block keys)
has_index bytes keys file =
    let rows = rows_of first_block keys in
    record {
      blocks = all_blocks keys;
      whole = sym file.spelled ∙ ap (λ (n : ℕ). header ++ all_blocks keys ++ index_bytes rows ++ bytes_of_u64 n) (sym (end_is keys));
      good = subst (λ (n : ℕ). AreIndex n rows) (let sum = length-append header (all_blocks keys) in omega arith) file.are_keys.index;
    }

-- ---- what stands at the place of a block

stored : (kind : Kind) (block : List Row) → block_bytes kind block ≡ bytes_of_u32 (crc32_of (coded_block kind block)) ++ coded_block kind block
unfolding block_bytes
stored kind block = refl

part_at : (bytes front part back : List ℕ) (place : ℕ) → bytes ≡ front ++ (part ++ back) → length front ≡ place → bytes_at bytes place (length part) ≡ part
part_at bytes front part back place is len =
    ap (λ (l : List ℕ). take (length part) (drop place l)) is
    ∙ ap (take (length part)) (drop_at front (part ++ back) place len)
    ∙ take_at part back (length part) refl

spans : (kind : Kind) (place : ℕ) (block : List Row) → IsHeld kind block → Spans (entry_of kind place block) block
spans kind place [] held = let some = held.are_points.times.some in absurd (omega arith)
spans kind place (p ∷ ps) held = (refl, refl)

block_is : (bytes front back : List ℕ) (kind : Kind) (place : ℕ) (block : List Row) → IsHeld kind block → bytes ≡ front ++ (block_bytes kind block ++ back) → length front ≡ place
    → IsBlockOf kind (entry_of kind place block) (held_at bytes (entry_of kind place block)) block
block_is bytes front back kind place block held is len = record {
  stored = part_at bytes front (block_bytes kind block) back place is len ∙ stored kind block;
  are_points = held.are_points;
  in_range = held.in_range;
  spans = spans kind place block held;
}

-- the first of two parts goes over to the front
moved : (bytes front one rest back : List ℕ) → bytes ≡ front ++ ((one ++ rest) ++ back) → bytes ≡ (front ++ one) ++ (rest ++ back)
moved bytes front one rest back is = is ∙ ap (λ (l : List ℕ). front ++ l) (append_assoc one rest back) ∙ sym (append_assoc front one (rest ++ back))

have_points : (bytes front back : List ℕ) (kind : Kind) (place : ℕ) (blocks : List (List Row)) → All (IsHeld kind) blocks → bytes ≡ front ++ (flat_map (block_bytes kind) blocks ++ back) → length front ≡ place
    → HavePoints bytes kind (entries_of kind place blocks) (joined blocks)
have_points bytes front back kind place [] held is len = refl
have_points bytes front back kind place (block ∷ blocks) held is len =
    let own = block_bytes kind block in
    let rest = flat_map (block_bytes kind) blocks in (
      block,
      joined blocks,
      block_is bytes front (rest ++ back) kind place block (All-head (IsHeld kind) block blocks held) (is ∙ ap (λ (l : List ℕ). front ++ l) (append_assoc own rest back)) len,
      have_points bytes (front ++ own) back kind (place + length own) blocks (All-tail (IsHeld kind) block blocks held) (moved bytes front own rest back is) (length-append front own ∙ ap (λ (n : ℕ). n + length own) len),
      refl,
    )

-- ---- keys

abbrev row_from : KeyedPoint → Row
row_from point = (point.time, point.value)

abbrev has_key : List ℕ → KeyedPoint → Bool
has_key key point = bytes_eq point.key key

is_not : (b : Bool) → (b ≡ true → ⊥) → b ≡ false
is_not true never = absurd (never refl)
is_not false never = refl

differs : (a b : List ℕ) → (a ≡ b → ⊥) → bytes_eq a b ≡ false
differs a b apart = is_not (bytes_eq a b) (λ is. apart ((bytes_eq-Decides a b).0 is))

decided : {P : Type 0} (b : Bool) → Decides b P → P ⊎ (P → ⊥)
decided true d = inl (d.0 refl)
decided false d = inr (λ p. false≢true (d.1 p))

same_or_not : (a b : List ℕ) → (a ≡ b) ⊎ (a ≡ b → ⊥)
same_or_not a b = decided (bytes_eq a b) (bytes_eq-Decides a b)

not_less : (key : List ℕ) → slice_cmp nat_cmp key key ≡ Less → ⊥
not_less key less = false≢true (ap is_eq (sym less) ∙ is_eq-slice_cmp key key ∙ nat_list_eq_equiv.refl key)

first_contained : {X : Type 0} (x : X) (xs : List X) → Contains (x ∷ xs) x
first_contained x xs = (0, omega arith, refl)

later_contained : {X : Type 0} (y x : X) (xs : List X) → Contains xs x → Contains (y ∷ xs) x
later_contained y x xs has = (suc has.0, let within = has.1 in omega arith, has.2)

-- the points of the key stand behind its row, which is one of these
HasOwn : List ℕ → List KeyRow → KeyBlocks → Type 0
HasOwn bytes rows one = (row : KeyRow) × HasKey rows one.key row × HavePoints bytes row.kind row.entries (joined one.blocks)

keys_have : (bytes front back : List ℕ) (place : ℕ) (keys : List KeyBlocks) → All (λ one. All (IsHeld one.kind) one.blocks) keys → bytes ≡ front ++ (all_blocks keys ++ back) → length front ≡ place
    → All (HasOwn bytes (rows_of place keys)) keys
unfolding HasOwn
keys_have bytes front back place [] held is len = All-nil (HasOwn bytes [])
keys_have bytes front back place (one ∷ keys) held is len =
    let P = λ (k : KeyBlocks). All (IsHeld k.kind) k.blocks in
    let own = key_bytes one in
    let rest = all_blocks keys in
    let row = row_of place one in
    let rows = rows_of (place + length own) keys in
    All-cons (HasOwn bytes (row ∷ rows)) one keys (
      row,
      (first_contained row rows, refl),
      have_points bytes front (rest ++ back) one.kind place one.blocks (All-head P one keys held) (is ∙ ap (λ (l : List ℕ). front ++ l) (append_assoc own rest back)) len,
    )
    (λ k d lt.
    let had = keys_have bytes (front ++ own) back (place + length own) keys (All-tail P one keys held) (moved bytes front own rest back is) (length-append front own ∙ ap (λ (n : ℕ). n + length own) len) k d lt in
    (had.0, (later_contained row had.0 rows had.1.0, had.1.1), had.2))

keys_of_file : (bytes : List ℕ) (keys : List KeyBlocks) → IsFile bytes keys → All (HasOwn bytes (rows_of first_block keys)) keys
keys_of_file bytes keys file =
    let back = index_bytes (rows_of first_block keys) ++ bytes_of_u64 (index_at keys) in
    let is : bytes ≡ header ++ (all_blocks keys ++ back) =
    sym file.spelled
    ∙ append_assoc (header ++ all_blocks keys) (index_bytes (rows_of first_block keys)) (bytes_of_u64 (index_at keys))
    ∙ append_assoc header (all_blocks keys) back in
    keys_have bytes header back first_block keys file.are_keys.held is refl

lacking : (place : ℕ) (key : List ℕ) (keys : List KeyBlocks) → All (λ one. one.key ≢ key) keys → LacksKey (rows_of place keys) key
lacking place key [] none = All-nil (λ (row : KeyRow). row.key ≢ key)
lacking place key (one ∷ keys) none =
    All-cons (λ (row : KeyRow). row.key ≢ key) (row_of place one) (rows_of (place + length (key_bytes one)) keys)
    (All-head (λ (k : KeyBlocks). k.key ≢ key) one keys none) (lacking (place + length (key_bytes one)) key keys (All-tail (λ (k : KeyBlocks). k.key ≢ key) one keys none))

-- each key of a file has its own points there
pub key_has : (bytes : List ℕ) (keys : List KeyBlocks) → IsFile bytes keys → All (λ one. KeyHas bytes (rows_of first_block keys) one.key (joined one.blocks)) keys
unfolding HasOwn
key_has bytes keys file = λ k d lt. inl (keys_of_file bytes keys file k d lt)

-- and any other key has none
pub others_have_none : (bytes : List ℕ) (keys : List KeyBlocks) (key : List ℕ) → All (λ one. one.key ≢ key) keys → KeyHas bytes (rows_of first_block keys) key []
others_have_none bytes keys key none = inr (lacking first_block key keys none, refl)

-- ---- the points under a key

under-append : (key : List ℕ) (xs ys : List KeyedPoint) → points_under key (xs ++ ys) ≡ points_under key xs ++ points_under key ys
under-append key xs ys = ap (map row_from) (filter-append (has_key key) xs ys) ∙ map-append row_from (filter (has_key key) xs) (filter (has_key key) ys)

under-own : (key : List ℕ) (points : List Row) → points_under key (keyed key points) ≡ points
under-own key [] = refl
under-own key (p ∷ ps) =
    ap (λ (b : Bool). map row_from (cond b (record { key = key; time = p.0; value = p.1 } ∷ filter (has_key key) (keyed key ps)) (filter (has_key key) (keyed key ps)))) (nat_list_eq_equiv.refl key)
    ∙ ap (λ (l : List Row). p ∷ l) (under-own key ps)

under-other : (key other : List ℕ) (points : List Row) → (other ≡ key → ⊥) → points_under key (keyed other points) ≡ []
under-other key other [] apart = refl
under-other key other (p ∷ ps) apart =
    ap (λ (b : Bool). map row_from (cond b (record { key = other; time = p.0; value = p.1 } ∷ filter (has_key key) (keyed other ps)) (filter (has_key key) (keyed other ps)))) (differs other key apart)
    ∙ under-other key other ps apart

under-first : (key : List ℕ) (one : KeyBlocks) (keys : List KeyBlocks) → points_under key (all_points (one ∷ keys)) ≡ points_under key (keyed one.key (joined one.blocks)) ++ points_under key (all_points keys)
under-first key one keys = under-append key (keyed one.key (joined one.blocks)) (all_points keys)

none_under : (key : List ℕ) (keys : List KeyBlocks) → All (λ one. one.key ≢ key) keys → points_under key (all_points keys) ≡ []
none_under key [] none = refl
none_under key (one ∷ keys) none =
    under-first key one keys
    ∙ ap (λ (l : List Row). l ++ points_under key (all_points keys)) (under-other key one.key (joined one.blocks) (All-head (λ (k : KeyBlocks). k.key ≢ key) one keys none))
    ∙ none_under key keys (All-tail (λ (k : KeyBlocks). k.key ≢ key) one keys none)

-- the keys behind one are greater
above_keys : (last : List ℕ) (place : ℕ) (keys : List KeyBlocks) → AreRows (Some last) place (rows_of place keys) → All (λ one. slice_cmp nat_cmp last one.key ≡ Less) keys
above_keys last place [] are = All-nil (λ (one : KeyBlocks). slice_cmp nat_cmp last one.key ≡ Less)
above_keys last place (x ∷ keys) are =
    let next = place + length (key_bytes x) in
    let rest = above_keys x.key next keys (subst (λ (n : ℕ). AreRows (Some x.key) n (rows_of next keys)) (let sizes = size-entries x.kind place x.blocks in omega arith) are.1) in
    All-cons (λ (one : KeyBlocks). slice_cmp nat_cmp last one.key ≡ Less) x keys are.0.above
    (λ k d lt. nat_list_cmp_total.trans last x.key (get_or keys k d).key are.0.above (rest k d lt))

-- one of the keys is this one, and its points are those under it
HasUnder : List ℕ → List KeyBlocks → Type 0
HasUnder key keys = (one : KeyBlocks) × Contains keys one × (one.key ≡ key) × (points_under key (all_points keys) ≡ joined one.blocks)

own_or_none : (last : Option (List ℕ)) (place : ℕ) (keys : List KeyBlocks) (key : List ℕ) → AreRows last place (rows_of place keys) → HasUnder key keys ⊎ All (λ one. one.key ≢ key) keys
unfolding HasUnder
own_or_none last place [] key are = inr (All-nil (λ (one : KeyBlocks). one.key ≢ key))
own_or_none last place (x ∷ keys) key are =
    let next = place + length (key_bytes x) in
    let rows = subst (λ (n : ℕ). AreRows (Some x.key) n (rows_of next keys)) (let sizes = size-entries x.kind place x.blocks in omega arith) are.1 in
    let later = above_keys x.key next keys rows in
    let none : All (λ one. one.key ≢ x.key) keys = λ k d lt same. not_less x.key (subst (λ (l : List ℕ). slice_cmp nat_cmp x.key l ≡ Less) same (later k d lt)) in
    ⊎_elim
    (λ (same : x.key ≡ key). inl (
      x,
      first_contained x keys,
      same,
      subst (λ (k : List ℕ). points_under k (all_points (x ∷ keys)) ≡ joined x.blocks) same
          (under-first x.key x keys
          ∙ ap (λ (l : List Row). l ++ points_under x.key (all_points keys)) (under-own x.key (joined x.blocks))
          ∙ ap (λ (l : List Row). joined x.blocks ++ l) (none_under x.key keys none)
          ∙ append-nil (joined x.blocks)),
    ))
    (λ (apart : x.key ≡ key → ⊥). ⊎_elim
    (λ (has : HasUnder key keys). inl (
      has.0,
      later_contained x has.0 keys has.1,
      has.2,
      under-first key x keys
          ∙ ap (λ (l : List Row). l ++ points_under key (all_points keys)) (under-other key x.key (joined x.blocks) apart)
          ∙ has.3,
    ))
    (λ (lacks : All (λ one. one.key ≢ key) keys). inr (All-cons (λ (one : KeyBlocks). one.key ≢ key) x keys apart lacks))
    (own_or_none (Some x.key) next keys key rows))
    (same_or_not x.key key)

-- each key of a file has the points under it, and any other none
pub key_has_under : (bytes : List ℕ) (keys : List KeyBlocks) (key : List ℕ) → IsFile bytes keys → KeyHas bytes (rows_of first_block keys) key (points_under key (all_points keys))
unfolding HasOwn HasUnder
key_has_under bytes keys key file =
    let rows = rows_of first_block keys in
    ⊎_elim
    (λ (has : HasUnder key keys).
    let one = has.0 in
    let at = has.1 in
    let own : HasOwn bytes rows one = subst (HasOwn bytes rows) at.2 (keys_of_file bytes keys file at.0 one at.1) in
    inl (own.0, (own.1.0, own.1.1 ∙ has.2), subst (HavePoints bytes own.0.kind own.0.entries) (sym has.3) own.2))
    (λ (none : All (λ one. one.key ≢ key) keys). inr (lacking first_block key keys none, none_under key keys none))
    (own_or_none None first_block keys key file.are_keys.index.good)

-- what was written is read back
pub read_back : (tells : Type 0) (content : List ℕ) (facts : TsmFacts) (pushed : List KeyedPoint) → IsOutput tells content facts pushed → IsReadBack tells content facts pushed
read_back tells content facts pushed out =
    let rows : facts.index.rows ≡ rows_of first_block out.keys = ap (λ (i : Index). i.rows) out.facts_are.index in
    record {
      index = λ told. subst (HasIndex content) (sym rows) (has_index content out.keys (out.file told));
      points = λ told key.
          subst (λ (l : List KeyRow). KeyHas content l key (points_under key pushed)) (sym rows)
          (subst (λ (l : List KeyedPoint). KeyHas content (rows_of first_block out.keys) key (points_under key l)) out.cut.all (key_has_under content out.keys key (out.file told)));
    }
