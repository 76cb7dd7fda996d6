-- Entries past a floor, one more after another, and the records that are theirs.
use Rattle.std.proofs.Common.{◌≡◌, ℕ, zero, suc, ◌+◌, ◌<◌, ◌≤◌, Bool, true, false, cond, nat_lt, max, List, [], ◌∷◌, ◌++◌, length, map, get_or, drop, refl, sym, ap, subst, ◌∙◌, arith}
use Rattle.std.specs.List.{range_with_len}
use Rattle.std.proofs.lemmas.Bool.Decides.{nat_tests}
use Rattle.std.proofs.lemmas.List.{append_assoc, append-nil, length-append, map-append}
use Rattle.std.proofs.lemmas.List.Elements.{filter-append}
use Rattle.gate_log.specs.Following.{Leads}
use Rattle.gate_log.specs.Records.{spelled}
use Rattle.point_model.specs.declared.entry.Entry.{Entry}
use Rattle.wal_store.specs.Segments.{SpellsRecord, last_number}
use Rattle.wal_store.specs.Replay.{AreCounted, AreRecords, Holds, Logged, newest_of, past, segment_grammar}

-- ---- an entry more

pub past_more : (floor : ℕ) (before : List Logged) (l : Logged) (more : List Logged) → past floor (l ∷ []) ≡ more → past floor (before ++ l ∷ []) ≡ past floor before ++ more
past_more floor before l more is = filter-append (λ (x : Logged). nat_lt floor x.number) before (l ∷ []) ∙ ap (λ (p : List Logged). past floor before ++ p) is

pub is_below : (floor : ℕ) (l : Logged) → l.number ≤ floor → past floor (l ∷ []) ≡ []
is_below floor l low = ap (λ (b : Bool). cond b (l ∷ []) []) (let no : nat_lt floor l.number ≡ false = grind (arith, nat_tests, low) in no)

pub is_past : (floor : ℕ) (l : Logged) → floor < l.number → past floor (l ∷ []) ≡ l ∷ []
is_past floor l high = ap (λ (b : Bool). cond b (l ∷ []) []) (let yes : nat_lt floor l.number ≡ true = grind (arith, nat_tests, high) in yes)

range_more : (a n : ℕ) → range_with_len a (suc n) ≡ range_with_len a n ++ (a + n) ∷ []
range_more a zero = let same : a ≡ a + 0 = omega arith in ap (λ (k : ℕ). k ∷ []) same
range_more a (suc n) = let same : a + 1 + n ≡ a + suc n = omega arith in ap (λ (l : List ℕ). a ∷ l) (range_more (a + 1) n ∙ ap (λ (k : ℕ). range_with_len (a + 1) n ++ k ∷ []) same)

pub length_map : {X Y : Type 0} (f : X → Y) (xs : List X) → length (map f xs) ≡ length xs
length_map f [] = refl
length_map f (x ∷ xs) = ap (λ (n : ℕ). suc n) (length_map f xs)

one_longer : (kept : List Logged) (l : Logged) → suc (length kept) ≡ length (kept ++ l ∷ [])
one_longer kept l = omega (arith, length-append kept (l ∷ []))

pub counted_more : (floor : ℕ) (kept : List Logged) (l : Logged) → map (λ (x : Logged). x.number) kept ≡ range_with_len (floor + 1) (length kept) → l.number ≡ floor + 1 + length kept
    → map (λ (x : Logged). x.number) (kept ++ l ∷ []) ≡ range_with_len (floor + 1) (length (kept ++ l ∷ []))
counted_more floor kept l is next =
    map-append (λ (x : Logged). x.number) kept (l ∷ []) ∙ (λ i. is i ++ next i ∷ []) ∙ sym (range_more (floor + 1) (length kept))
    ∙ ap (λ (n : ℕ). range_with_len (floor + 1) n) (one_longer kept l)

-- ---- what the entries hold

pub holds_none : (floor : ℕ) → floor ≤ last_number → Holds floor [] []
holds_none floor most = record { counted = refl; past_floor = refl; most = omega (arith, most) }

pub holds_below : (floor : ℕ) (before : List Logged) (l : Logged) (entries : List Entry) → l.number ≤ floor → Holds floor before entries → Holds floor (before ++ l ∷ []) entries
holds_below floor before l entries low h = record {
  counted = subst (λ (p : List Logged). map (λ (x : Logged). x.number) p ≡ range_with_len (floor + 1) (length p)) (sym same) h.counted;
  past_floor = h.past_floor ∙ ap (λ (p : List Logged). map (λ (x : Logged). x.entry) p) (sym same);
  most = h.most;
}
  where
    same : past floor (before ++ l ∷ []) ≡ past floor before
    same = past_more floor before l [] (is_below floor l low) ∙ append-nil (past floor before)

-- as many entries as there are past the floor
pub many_past : (floor : ℕ) (before : List Logged) (entries : List Entry) → Holds floor before entries → length entries ≡ length (past floor before)
many_past floor before entries h = ap length h.past_floor ∙ length_map (λ (x : Logged). x.entry) (past floor before)

pub holds_next : (floor : ℕ) (before : List Logged) (l : Logged) (entries : List Entry) → floor < l.number → l.number ≤ last_number → l.number ≡ floor + 1 + length entries → Holds floor before entries
    → Holds floor (before ++ l ∷ []) (entries ++ l.entry ∷ [])
holds_next floor before l entries high most next h = record {
  counted = subst (λ (p : List Logged). map (λ (x : Logged). x.number) p ≡ range_with_len (floor + 1) (length p)) (sym same)
      (counted_more floor (past floor before) l h.counted (next ∙ ap (λ (n : ℕ). floor + 1 + n) (many_past floor before entries h)));
  past_floor = ap (λ (es : List Entry). es ++ l.entry ∷ []) h.past_floor ∙ sym (map-append (λ (x : Logged). x.entry) (past floor before) (l ∷ [])) ∙ ap (λ (p : List Logged). map (λ (x : Logged). x.entry) p) (sym same);
  most = omega (arith, most, next, length-append entries (l.entry ∷ []));
}
  where
    same : past floor (before ++ l ∷ []) ≡ past floor before ++ l ∷ []
    same = past_more floor before l (l ∷ []) (is_past floor l high)

-- entries before others are counted where these are
front_is : (first : ℕ) (some others : List Logged) → map (λ (l : Logged). l.number) (some ++ others) ≡ range_with_len first (length (some ++ others)) → map (λ (l : Logged). l.number) some ≡ range_with_len first (length some)
front_is first [] others is = refl
front_is first (l ∷ some) others is =
    let here : l.number ≡ first = ap (λ (ns : List ℕ). get_or ns 0 0) is in
    let behind = front_is (first + 1) some others (ap (λ (ns : List ℕ). drop 1 ns) is) in
    λ i. here i ∷ behind i

pub counted_front : (floor : ℕ) (some others : List Logged) → AreCounted floor (some ++ others) → AreCounted floor some
counted_front floor some others is =
    front_is (floor + 1) (past floor some) (past floor others)
    (subst (λ (p : List Logged). map (λ (l : Logged). l.number) p ≡ range_with_len (floor + 1) (length p)) (filter-append (λ (l : Logged). nat_lt floor l.number) some others) is)

-- ---- a record more

pub are_more : (logged : List Logged) (records : List (List ℕ)) (l : Logged) (body : List ℕ) → AreRecords logged records → SpellsRecord l.number l.entry body → AreRecords (logged ++ l ∷ []) (records ++ body ∷ [])
are_more [] [] l body are spells = (spells, tt)
are_more [] (x ∷ records) l body are spells = absurd are
are_more (x ∷ logged) [] l body are spells = absurd are
are_more (x ∷ logged) (y ∷ records) l body are spells = (are.0, are_more logged records l body are.1 spells)

max_zero : (n : ℕ) → max n 0 ≡ max 0 n
max_zero n = omega arith

max_assoc : (a b c : ℕ) → max a (max b c) ≡ max (max a b) c
max_assoc a b c = omega arith

pub newest_more : (logged : List Logged) (l : Logged) → newest_of (logged ++ l ∷ []) ≡ max (newest_of logged) l.number
newest_more [] l = max_zero l.number
newest_more (x ∷ logged) l = ap (λ (n : ℕ). max x.number n) (newest_more logged l) ∙ max_assoc x.number (newest_of logged) l.number

pub spelled_more : (records : List (List ℕ)) (body : List ℕ) → length (spelled (records ++ body ∷ [])) ≡ length (spelled records) + (9 + length body)
spelled_more [] body = omega (arith, ap length (append-nil body))
spelled_more (x ∷ xs) body = omega (arith, spelled_more xs body, length-append x (spelled (xs ++ body ∷ [])), length-append x (spelled xs))

-- ---- records that follow one another

number_at : (a : ℕ) (kept : List Logged) (l : Logged) (others : List Logged) → map (λ (x : Logged). x.number) (kept ++ l ∷ others) ≡ range_with_len a (length (kept ++ l ∷ others)) → l.number ≡ a + length kept
number_at a [] l others is = let first : l.number ≡ a = ap (λ (ns : List ℕ). get_or ns 0 0) is in omega (arith, first)
number_at a (k ∷ kept) l others is = let rest = number_at (a + 1) kept l others (ap (λ (ns : List ℕ). drop 1 ns) is) in omega (arith, rest)

past_behind : (floor : ℕ) (before : List Logged) (l : Logged) (others : List Logged) → floor < l.number → past floor (before ++ l ∷ others) ≡ past floor before ++ l ∷ past floor others
past_behind floor before l others high =
    filter-append (λ (x : Logged). nat_lt floor x.number) before (l ∷ others)
    ∙ ap (λ (p : List Logged). past floor before ++ p) (filter-append (λ (x : Logged). nat_lt floor x.number) (l ∷ []) others ∙ ap (λ (p : List Logged). p ++ past floor others) (is_past floor l high))

-- an entry past the floor is the next one
pub next_is : (floor : ℕ) (before : List Logged) (l : Logged) (others : List Logged) → floor < l.number → AreCounted floor (before ++ l ∷ others) → l.number ≡ floor + 1 + length (past floor before)
next_is floor before l others high counted =
    number_at (floor + 1) (past floor before) l (past floor others)
    (subst (λ (p : List Logged). map (λ (x : Logged). x.number) p ≡ range_with_len (floor + 1) (length p)) (past_behind floor before l others high) counted)

-- the records of entries that are counted lead from those before to all
pub leads_of : (floor : ℕ) (before here : List Logged) (records : List (List ℕ)) → AreRecords here records → AreCounted floor (before ++ here) → Leads (segment_grammar floor) before records (before ++ here)
leads_of floor before [] [] are counted = append-nil before
leads_of floor before [] (body ∷ records) are counted = absurd are
leads_of floor before (l ∷ here) [] are counted = absurd are
leads_of floor before (l ∷ here) (body ∷ records) are counted = (
  before ++ l ∷ [],
  record { logged = l; spells = are.0; next = λ high. next_is floor before l here high counted; behind = refl },
  subst (λ (all : List Logged). Leads (segment_grammar floor) (before ++ l ∷ []) records all) (append_assoc before (l ∷ []) here)
      (leads_of floor (before ++ l ∷ []) here records are.1 (subst (AreCounted floor) (sym (append_assoc before (l ∷ []) here)) counted)),
)
