-- Entries are read one by one.
use Rattle.std.proofs.Common.{◌≡◌, ◌≢◌, ℕ, ℤ, ◌+◌, ◌<◌, ◌≤◌, List, [], ◌∷◌, ◌++◌, length, drop, ◌*◌, Option, Some, None, refl, sym, ap, ◌∙◌, subst, arith}
use Rattle.std.specs.List.{flat_map}
use Rattle.std.proofs.lemmas.List.{append_assoc, append-nil, length-append, drop-drop}
use Rattle.tsm_format.specs.declared.entry.Entry.{Entry}
use Rattle.tsm_format.specs.Rows.{IsEntry, IsLater, AreEntries, size_of}
use Rattle.tsm_format.specs.Places.{StandsFor}
use Rattle.tsm_format.specs.Format.{entry_bytes}
use Rattle.tsm_format.proofs.FormatLemmas.{same_entry, entry_widths, entry_long}

-- the last time of entries, or the one before them where there are none
abbrev pub last_time : Option ℤ → List Entry → Option ℤ
last_time last [] = last
last_time last (entry ∷ entries) = last_time (Some entry.max) entries

pub flat_push : {X : Type 0} (f : X → List ℕ) (xs : List X) (x : X) (rest : List ℕ) → flat_map f xs ++ (f x ++ rest) ≡ flat_map f (xs ++ (x ∷ [])) ++ rest
flat_push f [] x rest = ap (λ (l : List ℕ). l ++ rest) (sym (append-nil (f x)))
flat_push f (y ∷ xs) x rest =
    append_assoc (f y) (flat_map f xs) (f x ++ rest) ∙ ap (λ (l : List ℕ). f y ++ l) (flat_push f xs x rest)
    ∙ sym (append_assoc (f y) (flat_map f (xs ++ (x ∷ []))) rest)

pub entries_push : (last : Option ℤ) (at : ℕ) (entries : List Entry) (entry : Entry) → AreEntries last at entries → IsEntry (at + size_of entries) entry → IsLater (last_time last entries) entry.min
    → AreEntries last at (entries ++ (entry ∷ []))
entries_push last at [] entry a is later = (subst (λ (n : ℕ). IsEntry n entry) (omega arith) is, later, tt)
entries_push last at (x ∷ xs) entry a is later =
    (a.0, a.1, entries_push (Some x.max) (at + x.size) xs entry a.2 (subst (λ (n : ℕ). IsEntry n entry) (omega arith) is) later)

last_push : (last : Option ℤ) (entries : List Entry) (entry : Entry) → last_time last (entries ++ (entry ∷ [])) ≡ Some entry.max
last_push last [] entry = refl
last_push last (x ∷ xs) entry = last_push (Some x.max) xs entry

size_push : (entries : List Entry) (entry : Entry) → size_of (entries ++ (entry ∷ [])) ≡ size_of entries + entry.size
size_push [] entry = omega arith
size_push (x ∷ xs) entry = let rest = size_push xs entry in omega arith

-- What was read of the entries that begin at a place: these, the rest of the bytes, and what the reader keeps. Whoever
-- reads more entries from the same bytes reads these first.
pub record HasTaken (bytes : List ℕ) (at : ℕ) (done : List Entry) (rest : List ℕ) (last : Option ℤ) (end : Option ℕ) : Type 0 where
  pub good : AreEntries None at done
  pub stands : StandsFor end (at + size_of done)
  pub time : last ≡ last_time None done
  pub only : (entries : List Entry) (more : List ℕ) → AreEntries None at entries → length done ≤ length entries → bytes ≡ flat_map entry_bytes entries ++ more
      → (others : List Entry) × (entries ≡ done ++ others) × (rest ≡ flat_map entry_bytes others ++ more) × AreEntries last (at + size_of done) others

one_more : (done entries : List Entry) (behind more : List ℕ) (last : Option ℤ) (now : ℕ) (entry : Entry) (others : List Entry) → entries ≡ done ++ others
    → entry_bytes entry ++ behind ≡ flat_map entry_bytes others ++ more → AreEntries last now others → IsEntry now entry → length done + 1 ≤ length entries
    → (end : ℕ) → end ≡ now + entry.size
    → (rest : List Entry) × (entries ≡ (done ++ (entry ∷ [])) ++ rest) × (behind ≡ flat_map entry_bytes rest ++ more) × AreEntries (Some entry.max) end rest
one_more done entries behind more last now entry [] e f are is len end at =
    let same = ap length e ∙ length-append done [] in absurd (omega arith)
one_more done entries behind more last now entry (x ∷ xs) e f are is len end at =
    let first = same_entry entry x behind (flat_map entry_bytes xs ++ more) (entry_widths now entry is) (entry_widths now x are.0) (f ∙ append_assoc (entry_bytes x) (flat_map entry_bytes xs) more) in
    let one : entry ≡ x = first.0 in
    let size : entry.size ≡ x.size = ap (λ (y : Entry). y.size) one in
    let rest : AreEntries (Some entry.max) end xs = subst (λ (n : ℕ). AreEntries (Some entry.max) n xs) (omega arith) (subst (λ (t : ℤ). AreEntries (Some t) (now + x.size) xs) (ap (λ (y : Entry). y.max) (sym one)) are.2) in
    (xs, e ∙ ap (λ (y : Entry). done ++ (y ∷ xs)) (sym one) ∙ sym (append_assoc done (entry ∷ []) xs), first.1, rest)

pub record TakesFrom (bytes : List ℕ) (place : Option ℕ) (done : List Entry) (rest : List ℕ) (last : Option ℤ) (end : Option ℕ) : Type 0 where
  pub whole : bytes ≡ flat_map entry_bytes done ++ rest
  pub each : (at : ℕ) → StandsFor place at → HasTaken bytes at done rest last end

pub takes_none : (bytes : List ℕ) (place : Option ℕ) → TakesFrom bytes place [] bytes None place
takes_none bytes place = record {
  whole = refl;
  each = λ at stands. record {
    good = tt;
    stands = subst (StandsFor place) (omega arith) stands;
    time = refl;
    only = λ entries more are len e. (entries, refl, e, subst (λ (n : ℕ). AreEntries None n entries) (omega arith) are);
  };
}

-- one more entry, of which the place behind it is kept where 64 bits hold it
pub takes_one : (bytes : List ℕ) (place : Option ℕ) (done : List Entry) (rest behind : List ℕ) (last : Option ℤ) (end end' : Option ℕ) (entry : Entry)
    → TakesFrom bytes place done rest last end → rest ≡ entry_bytes entry ++ behind
    → ((at : ℕ) → StandsFor end at → IsEntry at entry × IsLater last entry.min) → ((at : ℕ) → StandsFor end at → IsEntry at entry → StandsFor end' (at + entry.size))
    → TakesFrom bytes place (done ++ (entry ∷ [])) behind (Some entry.max) end'
takes_one bytes place done rest behind last end end' entry takes is good next = record {
  whole = takes.whole ∙ ap (λ (l : List ℕ). flat_map entry_bytes done ++ l) is ∙ flat_push entry_bytes done entry behind;
  each = λ at stands.
      let had = takes.each at stands in
      let one = good (at + size_of done) had.stands in
      let size = size_push done entry in
      record {
        good = entries_push None at done entry had.good one.0 (subst (λ (t : Option ℤ). IsLater t entry.min) had.time one.1);
        stands = subst (StandsFor end') (omega arith) (next (at + size_of done) had.stands one.0);
        time = sym (last_push None done entry);
        only = λ entries more are len e.
            let pushed = length-append done (entry ∷ []) in
            let both = had.only entries more are (omega arith) e in
            one_more done entries behind more last (at + size_of done) entry both.0 both.1 (sym is ∙ both.2) both.3 one.0 (omega arith) (at + size_of (done ++ (entry ∷ []))) (omega arith);
      };
}

-- so many entries of 28 bytes are behind
pub record HasCounted (bytes : List ℕ) (done : List Entry) (rest : List ℕ) (count : ℕ) : Type 0 where
  pub left : rest ≡ drop (28 * length done) bytes
  pub many : length done ≡ count

pub counted_none : (bytes : List ℕ) → HasCounted bytes [] bytes 0
counted_none bytes = record { left = refl; many = refl }

pub counted_one : (bytes : List ℕ) (done : List Entry) (rest behind : List ℕ) (count : ℕ) (entry : Entry) → HasCounted bytes done rest count → behind ≡ drop 28 rest → HasCounted bytes (done ++ (entry ∷ [])) behind (count + 1)
counted_one bytes done rest behind count entry had e =
    let pushed = length-append done (entry ∷ []) in
    let len : length (done ++ (entry ∷ [])) ≡ length done + 1 = omega arith in
    let was = had.many in
    record {
      left = e ∙ ap (drop 28) had.left ∙ drop-drop 28 (28 * length done) bytes ∙ ap (λ (n : ℕ). drop n bytes) (omega arith);
      many = omega arith;
    }

pub entry_at_least : (rest : List ℕ) (entry : Entry) (behind : List ℕ) → rest ≡ entry_bytes entry ++ behind → 28 ≤ length rest
entry_at_least rest entry behind e = let long = ap length e ∙ entry_long entry behind in omega arith

no_further : (done entries : List Entry) (rest more : List ℕ) (last : Option ℤ) (end : Option ℕ) (now : ℕ) (others : List Entry) → entries ≡ done ++ others → rest ≡ flat_map entry_bytes others ++ more
    → AreEntries last now others → StandsFor end now
    → ((entry : Entry) (more : List ℕ) (at : ℕ) → StandsFor end at → IsEntry at entry → IsLater last entry.min → rest ≢ entry_bytes entry ++ more) → length done < length entries → ⊥
no_further done entries rest more last end now [] e f are stands none fewer = let same = ap length e ∙ length-append done [] in omega arith
no_further done entries rest more last end now (x ∷ xs) e f are stands none fewer =
    none x (flat_map entry_bytes xs ++ more) now stands are.0 are.1 (f ∙ append_assoc (entry_bytes x) (flat_map entry_bytes xs) more)

-- where no entry may follow those that were taken, there are not so many
pub stuck_none : (bytes : List ℕ) (place : Option ℕ) (done : List Entry) (rest : List ℕ) (last : Option ℤ) (end : Option ℕ) (count : ℕ) → TakesFrom bytes place done rest last end → length done < count
    → ((entry : Entry) (more : List ℕ) (at : ℕ) → StandsFor end at → IsEntry at entry → IsLater last entry.min → rest ≢ entry_bytes entry ++ more)
    → (entries : List Entry) (more : List ℕ) (at : ℕ) → StandsFor place at → length entries ≡ count → AreEntries None at entries → bytes ≢ flat_map entry_bytes entries ++ more
stuck_none bytes place done rest last end count takes fewer none entries more at stands len are e =
    let had = takes.each at stands in
    let both = had.only entries more are (omega arith) e in
    no_further done entries rest more last end (at + size_of done) both.0 both.1 both.2 both.3 had.stands none (omega arith)
