-- Which points a cursor gives, over whole runs of blocks.
use Rattle.std.proofs.Common.{◌≡◌, ℕ, ◌+◌, ◌<◌, ◌≤ℤ◌, Bool, true, false, List, [], ◌∷◌, ◌++◌, reverse, length, take, get_or, option_to_list, Option, None, Some, Result, Ok, Err, inl, inr, refl, sym, ap, ◌∙◌, subst, arith}
use Rattle.std.specs.List.{AllByRecursion, All}
use Rattle.std.proofs.lemmas.Int.{ints}
use Rattle.std.proofs.lemmas.List.{append-nil, append_assoc, reverse-append, length-append, take_all, take_more, get_or-append-add}
use Rattle.tsdb_types.specs.declared.value.Kind.{Kind}
use Rattle.tombstones.specs.Covered.{Tomb}
use Rattle.tsm_format.specs.declared.entry.Entry.{Entry}
use Rattle.tsm_format.specs.declared.row.KeyRow.{KeyRow}
use Rattle.tombstones.proofs.RangeLemmas.{all-weaker}
use Rattle.point_model.specs.Rows.{Row}
use Rattle.point_model.specs.declared.fault.CursorFault.{CursorFault}
use Rattle.tsm_file.specs.ReadIndex.{Index, HasKey, LacksKey}
use Rattle.tsm_file.specs.ReadBlocks.{HavePoints, IsBlockOf, KeyHas, held_at}
use Rattle.tsm_file.specs.ReadPoints.{Asked, Begins, BlocksGive, Cursor, Gives, IsLive, Meets, Picks, Stays, Steps, Takes, directed}
use Rattle.tsm_file.proofs.BlockLemmas.{within_entry}
use Rattle.tsm_file.proofs.PickLemmas.{picks-none, picks-once, picks-parts}

-- ---- blocks one behind the other

module _ (bytes : List ℕ) (tombs : List Tomb) (kind : Kind) (asked : Asked) where
  pub gives-append : (xs ys : List Entry) (a b : List Row) → BlocksGive bytes tombs kind asked xs a → BlocksGive bytes tombs kind asked ys b → BlocksGive bytes tombs kind asked (xs ++ ys) (a ++ b)
  gives-append [] ys a b h k = subst (λ (l : List Row). BlocksGive bytes tombs kind asked ys (l ++ b)) (sym h) k
  gives-append (x ∷ xs) ys a b h k =
      (h.0, h.1, h.2 ++ b, h.3, h.4, gives-append xs ys h.2 b h.5 k, ap (λ (l : List Row). l ++ b) h.6 ∙ append_assoc (directed asked.descending h.1) h.2 b)

  -- one block
  pub gives-one : (entry : Entry) (points live : List Row) → IsBlockOf kind entry (held_at bytes entry) points → Picks (IsLive tombs asked) points live
      → BlocksGive bytes tombs kind asked (entry ∷ []) (directed asked.descending live)
  gives-one entry points live block picks = (points, live, [], block, picks, refl, sym (append-nil (directed asked.descending live)))

  -- what is given by blocks in two parts, part by part
  pub record GiveBoth (xs ys : List Entry) (given : List Row) : Type 0 where
    pub first : List Row
    pub second : List Row
    pub from_first : BlocksGive bytes tombs kind asked xs first
    pub from_second : BlocksGive bytes tombs kind asked ys second
    pub both : given ≡ first ++ second

  pub gives-parts : (xs ys : List Entry) (given : List Row) → BlocksGive bytes tombs kind asked (xs ++ ys) given → GiveBoth xs ys given
  gives-parts [] ys given h = record { first = []; second = given; from_first = refl; from_second = h; both = refl }
  gives-parts (x ∷ xs) ys given h =
      let rest = gives-parts xs ys h.2 h.5 in
      let own : List Row = directed asked.descending h.1 in
      record {
        first = own ++ rest.first;
        second = rest.second;
        from_first = (h.0, h.1, rest.first, h.3, h.4, rest.from_first, refl);
        from_second = rest.from_second;
        both = h.6 ∙ ap (λ (l : List Row). own ++ l) rest.both ∙ sym (append_assoc own rest.first rest.second);
      }

-- ---- a block outside the bounds has no live point

outside : (tombs : List Tomb) (asked : Asked) (entry : Entry) (points : List Row) → (Meets asked.from asked.to entry → ⊥)
    → AllByRecursion (λ (p : Row). (entry.min ≤ℤ p.0) × (p.0 ≤ℤ entry.max)) points → AllByRecursion (λ (p : Row). IsLive tombs asked p → ⊥) points
outside tombs asked entry points never all =
    all-weaker (λ (p : Row). (entry.min ≤ℤ p.0) × (p.0 ≤ℤ entry.max)) (λ (p : Row). IsLive tombs asked p → ⊥)
    (λ p h live.
    let low = h.0 in
    let high = h.1 in
    let from = live.from_is in
    let to = live.to_is in
    never (record { some = omega (arith, ints); behind = omega (arith, ints); before = omega (arith, ints) })) points all

none_live : (tombs : List Tomb) (asked : Asked) (kind : Kind) (entry : Entry) (held : List ℕ) (points live : List Row) → (Meets asked.from asked.to entry → ⊥) → IsBlockOf kind entry held points
    → Picks (IsLive tombs asked) points live → live ≡ []
none_live tombs asked kind entry held points live never block picks =
    picks-once (IsLive tombs asked) points live [] picks (picks-none (IsLive tombs asked) points (outside tombs asked entry points never (within_entry kind entry held points block)))

-- ---- all blocks of a key that meet the bounds

ascending : (bytes : List ℕ) (tombs : List Tomb) (kind : Kind) (asked : Asked) (entries met : List Entry) (points live : List Row) → asked.descending ≡ false → HavePoints bytes kind entries points
    → Picks (Meets asked.from asked.to) entries met → Picks (IsLive tombs asked) points live → BlocksGive bytes tombs kind asked met live
ascending bytes tombs kind asked [] met points live up has meets picks =
    let none : live ≡ [] = subst (λ (ps : List Row). Picks (IsLive tombs asked) ps live) has picks in
    subst (λ (es : List Entry). BlocksGive bytes tombs kind asked es live) (sym meets) none
ascending bytes tombs kind asked (e ∷ es) met points live up has (inl meets) picks =
    let parts = picks-parts (IsLive tombs asked) has.0 has.1 live (subst (λ (ps : List Row). Picks (IsLive tombs asked) ps live) has.4 picks) in
    let rest = ascending bytes tombs kind asked es meets.0 has.1 parts.second up has.3 meets.2 parts.from_second in
    let own : directed asked.descending parts.first ≡ parts.first = ap (λ (d : Bool). directed d parts.first) up in
    let all : BlocksGive bytes tombs kind asked (e ∷ meets.0) live = (has.0, parts.first, parts.second, has.2, parts.from_first, rest, parts.both ∙ ap (λ (l : List Row). l ++ parts.second) (sym own)) in
    subst (λ (es : List Entry). BlocksGive bytes tombs kind asked es live) (sym meets.3) all
ascending bytes tombs kind asked (e ∷ es) met points live up has (inr meets) picks =
    let parts = picks-parts (IsLive tombs asked) has.0 has.1 live (subst (λ (ps : List Row). Picks (IsLive tombs asked) ps live) has.4 picks) in
    let rest = ascending bytes tombs kind asked es met has.1 parts.second up has.3 meets.1 parts.from_second in
    let none = none_live tombs asked kind e (held_at bytes e) has.0 parts.first meets.0 has.2 parts.from_first in
    subst (BlocksGive bytes tombs kind asked met) (sym (parts.both ∙ ap (λ (l : List Row). l ++ parts.second) none)) rest

descending : (bytes : List ℕ) (tombs : List Tomb) (kind : Kind) (asked : Asked) (entries met : List Entry) (points live : List Row) → asked.descending ≡ true → HavePoints bytes kind entries points
    → Picks (Meets asked.from asked.to) entries met → Picks (IsLive tombs asked) points live → BlocksGive bytes tombs kind asked (reverse met) (reverse live)
descending bytes tombs kind asked [] met points live down has meets picks =
    let none : live ≡ [] = subst (λ (ps : List Row). Picks (IsLive tombs asked) ps live) has picks in
    subst (λ (es : List Entry). BlocksGive bytes tombs kind asked (reverse es) (reverse live)) (sym meets) (ap reverse none)
descending bytes tombs kind asked (e ∷ es) met points live down has (inl meets) picks =
    let parts = picks-parts (IsLive tombs asked) has.0 has.1 live (subst (λ (ps : List Row). Picks (IsLive tombs asked) ps live) has.4 picks) in
    let rest = descending bytes tombs kind asked es meets.0 has.1 parts.second down has.3 meets.2 parts.from_second in
    let own : directed asked.descending parts.first ≡ reverse parts.first = ap (λ (d : Bool). directed d parts.first) down in
    let one = subst (BlocksGive bytes tombs kind asked (e ∷ [])) own (gives-one bytes tombs kind asked e has.0 parts.first has.2 parts.from_first) in
    let all = gives-append bytes tombs kind asked (reverse meets.0) (e ∷ []) (reverse parts.second) (reverse parts.first) rest one in
    let blocks : reverse met ≡ reverse meets.0 ++ (e ∷ []) = ap reverse meets.3 ∙ reverse-append (e ∷ []) meets.0 in
    let points : reverse live ≡ reverse parts.second ++ reverse parts.first = ap reverse parts.both ∙ reverse-append parts.first parts.second in
    subst (λ (es : List Entry). BlocksGive bytes tombs kind asked es (reverse live)) (sym blocks) (subst (BlocksGive bytes tombs kind asked (reverse meets.0 ++ (e ∷ []))) (sym points) all)
descending bytes tombs kind asked (e ∷ es) met points live down has (inr meets) picks =
    let parts = picks-parts (IsLive tombs asked) has.0 has.1 live (subst (λ (ps : List Row). Picks (IsLive tombs asked) ps live) has.4 picks) in
    let rest = descending bytes tombs kind asked es met has.1 parts.second down has.3 meets.1 parts.from_second in
    let none = none_live tombs asked kind e (held_at bytes e) has.0 parts.first meets.0 has.2 parts.from_first in
    subst (λ (l : List Row). BlocksGive bytes tombs kind asked (reverse met) (reverse l)) (sym (parts.both ∙ ap (λ (l : List Row). l ++ parts.second) none)) rest

-- the same in the direction that is asked for
in_order : (descends : Bool) (bytes : List ℕ) (tombs : List Tomb) (kind : Kind) (asked : Asked) (entries met : List Entry) (points live : List Row) → asked.descending ≡ descends
    → HavePoints bytes kind entries points → Picks (Meets asked.from asked.to) entries met → Picks (IsLive tombs asked) points live
    → BlocksGive bytes tombs kind asked (directed descends met) (directed descends live)
in_order true bytes tombs kind asked entries met points live is has meets picks = descending bytes tombs kind asked entries met points live is has meets picks
in_order false bytes tombs kind asked entries met points live is has meets picks = ascending bytes tombs kind asked entries met points live is has meets picks

directed-nil : {X : Type 0} (d : Bool) → directed {X = X} d [] ≡ []
directed-nil true = refl
directed-nil false = refl

lacks-not : (rows : List KeyRow) (key : List ℕ) (row : KeyRow) → HasKey rows key row → LacksKey rows key → ⊥
lacks-not rows key row has lacks = lacks has.0.0 row has.0.1 (ap (λ (r : KeyRow). r.key) has.0.2 ∙ has.1)

-- a new cursor gives the live points of its key
pub new_gives : (index : Index) (asked : Asked) (cursor : Cursor) → ((a b : KeyRow) → HasKey index.rows asked.key a → HasKey index.rows asked.key b → a ≡ b) → Begins index asked cursor
    → (bytes : List ℕ) (tombs : List Tomb) (points live : List Row) → KeyHas bytes index.rows asked.key points → Picks (IsLive tombs asked) points live → Gives bytes tombs cursor (directed asked.descending live)
new_gives index asked cursor one begins bytes tombs points live has picks =
    let kind = cursor.kind in
    let goal : Type 0 = BlocksGive bytes tombs kind asked (directed asked.descending begins.entries) (directed asked.descending live) in
    let all : goal = elim has [
      | inl row ↦ elim begins.meet [
        | inl met ↦
            let same : row.0 ≡ met.0 = one row.0 met.0 row.1 met.1 in
            let points_of = subst (λ (k : Kind). HavePoints bytes k met.0.entries points) (sym met.2) (subst (λ (r : KeyRow). HavePoints bytes r.kind r.entries points) same row.2) in
            in_order asked.descending bytes tombs kind asked met.0.entries begins.entries points live refl points_of met.3 picks
        | inr lacks ↦ absurd (lacks-not index.rows asked.key row.0 row.1 lacks.0)
      ]
      | inr lacks ↦ elim begins.meet [
        | inl met ↦ absurd (lacks-not index.rows asked.key met.0 met.1 lacks.0)
        | inr none ↦
            let no_live : live ≡ [] = subst (λ (ps : List Row). Picks (IsLive tombs asked) ps live) lacks.1 picks in
            subst (λ (es : List Entry). BlocksGive bytes tombs kind asked (directed asked.descending es) (directed asked.descending live)) (sym none.1)
            (subst (λ (es : List Entry). BlocksGive bytes tombs kind asked es (directed asked.descending live)) (sym (directed-nil asked.descending))
            (ap (directed asked.descending) no_live ∙ directed-nil asked.descending))
      ]
    ] in
    let blocks = subst (λ (es : List Entry). BlocksGive bytes tombs kind asked es (directed asked.descending live)) (sym begins.blocks) all in (
      directed asked.descending live,
      subst (λ (a : Asked). BlocksGive bytes tombs kind a cursor.blocks (directed asked.descending live)) (sym begins.asks) blocks,
      ap (λ (l : List Row). l ++ directed asked.descending live) (sym begins.points),
    )

-- ---- one block more is read

-- the last item comes first in the other direction
pub reverse_last : {X : Type 0} (xs : List X) (n : ℕ) (x : X) → n + 1 ≡ length xs → x ≡ get_or xs n x → reverse xs ≡ x ∷ reverse (take n xs)
reverse_last {X} xs n x len is =
    let whole : xs ≡ take n xs ++ get_or xs n x ∷ [] = sym (take_all (n + 1) xs (omega arith)) ∙ take_more xs n x (omega arith) in
    ap reverse whole ∙ reverse-append (take n xs) (get_or xs n x ∷ []) ∙ ap (λ (y : X). y ∷ reverse (take n xs)) (sym is)

pub one_read_takes : (bytes : List ℕ) (tombs : List Tomb) (old new : Cursor) (entry : Entry) (points live : List Row) → old.points ≡ [] → old.blocks ≡ entry ∷ new.blocks → new.file ≡ old.file → new.kind ≡ old.kind
    → new.asked ≡ old.asked → new.points ≡ directed old.asked.descending live → IsBlockOf old.kind entry (held_at bytes entry) points → Picks (IsLive tombs old.asked) points live → Takes bytes tombs old [] new
one_read_takes bytes tombs old new entry points live none front file kind asked ready block picks = record {
  file = file;
  kind = kind;
  asked = asked;
  read = entry ∷ [];
  front = front;
  live = directed old.asked.descending live;
  gives = gives-one bytes tombs old.kind old.asked entry points live block picks;
  all = ap (λ (l : List Row). l ++ directed old.asked.descending live) none ∙ sym ready;
}

pub one_read_stays : (bytes : List ℕ) (tombs : List Tomb) (kind : Kind) (asked : Asked) (entry : Entry) (rest : List Entry) (points live given : List Row)
    → ((ps : List Row) → IsBlockOf kind entry (held_at bytes entry) ps → points ≡ ps) → Picks (IsLive tombs asked) points live → BlocksGive bytes tombs kind asked (entry ∷ rest) given
    → (more : List Row) × BlocksGive bytes tombs kind asked rest more × (given ≡ directed asked.descending live ++ more)
one_read_stays bytes tombs kind asked entry rest points live given only picks h =
    let same = only h.0 h.3 in
    let lives : h.1 ≡ live = picks-once (IsLive tombs asked) points h.1 live (subst (λ (ps : List Row). Picks (IsLive tombs asked) ps h.1) (sym same) h.4) picks in
    (h.2, h.5, h.6 ∙ ap (λ (l : List Row). directed asked.descending l ++ h.2) lives)

-- ---- runs of reads

pub takes-none : (bytes : List ℕ) (tombs : List Tomb) (old : Cursor) → Takes bytes tombs old [] old
takes-none bytes tombs old = record { file = refl; kind = refl; asked = refl; read = []; front = refl; live = []; gives = refl; all = append-nil old.points }

pub takes-then : (bytes : List ℕ) (tombs : List Tomb) (old mid new : Cursor) → Takes bytes tombs old [] mid → Takes bytes tombs mid [] new → Takes bytes tombs old [] new
takes-then bytes tombs old mid new a b =
    let later : BlocksGive bytes tombs old.kind old.asked b.read b.live =
    subst (λ (k : Kind). BlocksGive bytes tombs k old.asked b.read b.live) a.kind (subst (λ (q : Asked). BlocksGive bytes tombs mid.kind q b.read b.live) a.asked b.gives) in
    record {
      file = b.file ∙ a.file;
      kind = b.kind ∙ a.kind;
      asked = b.asked ∙ a.asked;
      read = a.read ++ b.read;
      front = a.front ∙ ap (λ (l : List Entry). a.read ++ l) b.front ∙ sym (append_assoc a.read b.read new.blocks);
      live = a.live ++ b.live;
      gives = gives-append bytes tombs old.kind old.asked a.read b.read a.live b.live a.gives later;
      all = sym (append_assoc old.points a.live b.live) ∙ ap (λ (l : List Row). l ++ b.live) a.all ∙ b.all;
    }

-- what holds of all items holds of those behind
pub all_behind : {X : Type 0} (P : X → Type 0) (xs ys zs : List X) → xs ≡ ys ++ zs → All P xs → All P zs
all_behind {X} P xs ys zs e all = λ k d lt.
    let len = ap length e ∙ length-append ys zs in
    let at : get_or xs (length ys + k) d ≡ get_or zs k d = ap (λ (l : List X). get_or l (length ys + k) d) e ∙ get_or-append-add ys zs k d in
    subst P at (all (length ys + k) d (omega arith))

-- ---- one point is taken

pub step_given : (bytes : List ℕ) (tombs : List Tomb) (file : ℕ) (kind : Kind) (asked : Asked) (blocks : List Entry) (items items' given : List Row) (r : Option Row)
    → items ≡ items' ++ option_to_list r → (r ≡ None → items ≡ []) → (reverse items ≡ [] → blocks ≡ [])
    → Gives bytes tombs (record { file = file; kind = kind; asked = asked; blocks = blocks; points = reverse items }) given
    → Steps bytes tombs given (Ok r) (record { file = file; kind = kind; asked = asked; blocks = blocks; points = reverse items' })
step_given bytes tombs file kind asked blocks items items' given None e none ended gives =
    let empty : items ≡ [] = none refl in
    let empty' : items' ≡ [] = sym (append-nil items') ∙ sym e ∙ empty in
    let no_blocks : blocks ≡ [] = ended (ap reverse empty) in
    let no_rest : gives.0 ≡ [] = subst (λ (es : List Entry). BlocksGive bytes tombs kind asked es gives.0) no_blocks gives.1 in
    let all : given ≡ [] = gives.2 ∙ ap (λ (l : List Row). l ++ gives.0) (ap reverse empty) ∙ no_rest in
    (all, (gives.0, gives.1, sym no_rest ∙ ap (λ (l : List Row). l ++ gives.0) (ap reverse (sym empty'))))
step_given bytes tombs file kind asked blocks items items' given (Some point) e none ended gives =
    let front : reverse items ≡ point ∷ reverse items' = ap reverse e ∙ reverse-append items' (point ∷ []) in
    (reverse items' ++ gives.0, gives.2 ∙ ap (λ (l : List Row). l ++ gives.0) front, (gives.0, gives.1, refl))

-- a list whose turned list isn't empty has an item
pub some_left : {X : Type 0} (xs : List X) → (reverse xs ≡ [] → ⊥) → 0 < length xs
some_left [] some = absurd (some refl)
some_left (x ∷ xs) some = omega arith

-- a refusal that is passed on
pub stays-told : (bytes : List ℕ) (tombs : List Tomb) (given : List Row) (new : Cursor) (r : Result (Unit {0}) CursorFault) (told own : CursorFault) → r ≡ Err told → told ≡ own
    → Stays bytes tombs given (Err own) new → Stays bytes tombs given r new
stays-told bytes tombs given new r told own is same stays =
    subst (λ (k : Result (Unit {0}) CursorFault). Stays bytes tombs given k new) (sym is) (subst (λ (f : CursorFault). Stays bytes tombs given (Err f) new) (sym same) stays)
