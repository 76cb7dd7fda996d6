-- A transcript tells its whole replies and the part behind them.
use Rattle.std.proofs.Common.{◌≡◌, ◌++◌, ◌+◌, ◌<◌, ◌-◌, ◌^◌, min, length, ℕ, ℤ, Bool, true, false, nat_lt, nat_le, List, [], ◌∷◌, map, All, refl, ap, sym, ◌∙◌, subst, arith, append_assoc, Option, Some, None, ◌⊎◌, inl, inr, if◌then◌else◌}
use Rattle.std.specs.List.{flat_map}
use Rattle.std.specs.Option.{option_to_list}
use Rattle.std.proofs.lemmas.List.{length-map, append-nil}
use Rattle.std.proofs.lemmas.List.Elements.{All-cons, All-nil}
use Rattle.session_io.specs.declared.report.End.{End}
use Rattle.session_io.specs.declared.report.End.TheVariants.{Read, SourceFault, SinkFault, Memory}
use Rattle.tsdb_types.specs.declared.point.Point.{Point}
use Rattle.point_model.specs.Points.{Points}
use Rattle.point_model.specs.Acceptance.{Conflict, conflict}
use Rattle.point_model.specs.declared.entry.Entry.{Entry}
use Rattle.point_model.specs.Histories.{State}
use Rattle.point_model.specs.declared.entry.Entry.TheVariants.{Write as Write_entry, Delete as Delete_entry}
use Rattle.session_model.specs.declared.statement.Statement.{Statement}
use Rattle.session_model.specs.declared.statement.Statement.TheVariants as statement
use Rattle.session_model.specs.Lines.{Request}
use Rattle.session_model.specs.Requests.{Means}
use Rattle.session_model.specs.Replies.{Reply, Table, text, accepted}
use Rattle.session_model.specs.Replies.Reply.{Accepted, Found, Reached, NotReached, HistoryFull}
use Rattle.session_model.specs.Readable.{IsReadable}
use Rattle.session_model.specs.Machine.{Answer, Served, IsOfStore, serve, serve_batch}
use Rattle.session_model.specs.Explained.{Transcript, Dialogue, Records, IsTold, IsGivenAt, TakePlaces, IsCutShort, HasAsked, all_answers}
use Rattle.session_model.specs.Laws.{RequestsMeanOne, AnyCause}
use Rattle.session_model.proofs.TableLemmas.{all_head, all_tail}
use Rattle.session_model.proofs.ReadableLemmas.{replies_one, reply_one, replies_meet, nothing_goes_on, front_goes_on, reply_goes_on, goes_on, tables_written}

abbrev IsReadableAnswer : Answer → Type 0
IsReadableAnswer answer = IsReadable answer.reply

abbrev asked : List Answer → List Request
asked answers = map (λ answer. answer.request) answers

abbrev moments : List Answer → List ℤ
moments answers = map (λ answer. answer.moment) answers

abbrev written : List Answer → List ℕ
written answers = flat_map (λ answer. text answer.reply) answers

texts_of : (answers : List Answer) → written answers ≡ flat_map text (map (λ answer. answer.reply) answers)
texts_of [] = refl
texts_of (answer ∷ answers) = ap (λ (l : List ℕ). text answer.reply ++ l) (texts_of answers)

all_front : {X : Type 0} (P : X → Type 0) (xs ys : List X) → All P (xs ++ ys) → All P xs
all_front P [] ys h = All-nil P
all_front P (x ∷ xs) ys h = All-cons P x xs (all_head P x (xs ++ ys) h) (all_front P xs ys (all_tail P x (xs ++ ys) h))

all_back : {X : Type 0} (P : X → Type 0) (xs ys : List X) → All P (xs ++ ys) → All P ys
all_back P [] ys h = h
all_back P (x ∷ xs) ys h = all_back P xs ys (all_tail P x (xs ++ ys) h)

replies_readable : (answers : List Answer) → All IsReadableAnswer answers → All IsReadable (map (λ answer. answer.reply) answers)
replies_readable [] h = All-nil IsReadable
replies_readable (answer ∷ answers) h = All-cons IsReadable answer.reply (map (λ a. a.reply) answers)
    (all_head IsReadableAnswer answer answers h) (replies_readable answers (all_tail IsReadableAnswer answer answers h))

part_goes_on : (part : List ℕ) (cut : Option Answer) → IsCutShort part cut → goes_on part ≡ true
part_goes_on part None none = ap goes_on none ∙ nothing_goes_on
part_goes_on part (Some answer) short = front_goes_on part short.0
    (ap goes_on (sym short.2 ∙ sym (append-nil (text answer.reply))) ∙ reply_goes_on answer.reply [])

-- as many whole replies of one transcript
counted_one : (opening other : ℕ) (transcript : Transcript) (dialogue further : Dialogue)
    (first : Records opening transcript dialogue) (second : Records other transcript further) → length dialogue.answers ≡ length further.answers
    → (map (λ answer. answer.reply) dialogue.answers ≡ map (λ answer. answer.reply) further.answers) × (first.part ≡ second.part)
counted_one opening other transcript dialogue further first second count =
    replies_one (map (λ a. a.reply) dialogue.answers) (map (λ a. a.reply) further.answers) first.part second.part
    (replies_readable dialogue.answers (all_front IsReadableAnswer dialogue.answers (option_to_list dialogue.cut) first.readable))
    (replies_readable further.answers (all_front IsReadableAnswer further.answers (option_to_list further.cut) second.readable))
    (part_goes_on first.part dialogue.cut first.cut_short)
    (part_goes_on second.part further.cut second.cut_short)
    (length-map dialogue.answers (λ (a : Answer). a.reply) ∙ count ∙ sym (length-map further.answers (λ (a : Answer). a.reply)))
    (ap (λ (l : List ℕ). l ++ first.part) (sym (texts_of dialogue.answers)) ∙ sym first.written ∙ second.written
    ∙ ap (λ (l : List ℕ). l ++ second.part) (texts_of further.answers))

-- the count of replies, where it isn't at its greatest value
as_many : (m n count : ℕ) → count ≡ min m (2 ^ 64 - 1) → count ≡ min n (2 ^ 64 - 1) → count < 2 ^ 64 - 1 → m ≡ n
as_many m n count first second low = omega arith

pub transcripts_one : (opening other : ℕ) (transcript : Transcript) (dialogue further : Dialogue)
    (first : Records opening transcript dialogue) (second : Records other transcript further)
    → transcript.report.requests < 2 ^ 64 - 1
    → (map (λ answer. answer.reply) dialogue.answers ≡ map (λ answer. answer.reply) further.answers) × (first.part ≡ second.part)
transcripts_one opening other transcript dialogue further first second low =
    counted_one opening other transcript dialogue further first second
    (as_many (length dialogue.answers) (length further.answers) transcript.report.requests first.counted second.counted low)

-- What was asked, where the answer is the machine's.
record IsMeant (a : Answer) : Type 0 where
  asks : Statement
  means : Means a.request a.moment asks
  points : Points
  number : ℕ
  client : ℕ
  reply : a.reply ≡ (serve points number client asks).reply

abbrev Meant : Answer → Type 0
Meant a = IsOfStore a.reply ⊎ IsMeant a

given_meant : (tells : Bool) (start : State) (history : List Entry) (client : ℕ) (a : Answer) (place : ℕ) → IsGivenAt tells AnyCause start history client a place → Meant a
given_meant tells start history client a place (within, inl aside) = inl aside.aside
given_meant tells start history client a place (within, inr (entry, serves, stands)) =
    inr (record { asks = serves.asks; means = serves.means; points = serves.points; number = _; client = client; reply = serves.reply })

places_meant : (tells : Bool) (start : State) (history : List Entry) (client least : ℕ) (answers : List Answer) → TakePlaces tells AnyCause start history client least answers → All Meant answers
places_meant tells start history client least [] h = All-nil Meant
places_meant tells start history client least (a ∷ answers) h =
    All-cons Meant a answers (given_meant tells start history client a h.0 h.2) (places_meant tells start history client (h.0 + length (accepted a.reply)) answers h.3)

no_reached_room : (room : Bool) (number n : ℕ) (made : Entry) →
    (let served : Served = if room then record { reply = Accepted (number + 1); entry = Some made } else record { reply = HistoryFull; entry = None } in
    served.reply ≡ Reached n) → ⊥
no_reached_room true number n made same = cc same
no_reached_room false number n made same = cc same

no_reached_batch : (number client n : ℕ) (points : List Point) (found : Option Conflict) → (serve_batch number client points found).reply ≡ Reached n → ⊥
no_reached_batch number client n points (Some found) same = cc same
no_reached_batch number client n points None same = no_reached_room (nat_lt number 9223372036854775807) number n (Write_entry client points) same

no_found_room : (room : Bool) (number n : ℕ) (made : Entry) (tables : List Table) →
    (let served : Served = if room then record { reply = Accepted (number + 1); entry = Some made } else record { reply = HistoryFull; entry = None } in
    served.reply ≡ Found n tables) → ⊥
no_found_room true number n made tables same = cc same
no_found_room false number n made tables same = cc same

no_found_batch : (number client n : ℕ) (points : List Point) (tables : List Table) (found : Option Conflict) → (serve_batch number client points found).reply ≡ Found n tables → ⊥
no_found_batch number client n points tables (Some found) same = cc same
no_found_batch number client n points tables None same = no_found_room (nat_lt number 9223372036854775807) number n (Write_entry client points) tables same

no_found_after : (reached : Bool) (number n : ℕ) (tables : List Table) → (if reached then Reached number else NotReached number) ≡ Found n tables → ⊥
no_found_after true number n tables same = cc same
no_found_after false number n tables same = cc same

-- `at n` alone answers an AFTER, and `at n` with tables answers a SELECT
reached_asks : (points : Points) (number client n : ℕ) (asks : Statement) → (serve points number client asks).reply ≡ Reached n → (wanted : ℕ) × (asks ≡ statement.After wanted)
reached_asks points number client n (statement.Write batch) same = absurd (no_reached_batch number client n batch (conflict points batch) same)
reached_asks points number client n (statement.Delete deletion) same = absurd (no_reached_room (nat_lt number 9223372036854775807) number n (Delete_entry client deletion) same)
reached_asks points number client n (statement.Select field measurement) same = cc same
reached_asks points number client n (statement.After wanted) same = (wanted, refl)
reached_asks points number client n (statement.Refused refusal) same = cc same
reached_asks points number client n statement.NotBuilt same = cc same

found_asks : (points : Points) (number client n : ℕ) (tables : List Table) (asks : Statement) → (serve points number client asks).reply ≡ Found n tables
    → (field measurement : List ℕ) × (asks ≡ statement.Select field measurement)
found_asks points number client n tables (statement.Write batch) same = absurd (no_found_batch number client n batch tables (conflict points batch) same)
found_asks points number client n tables (statement.Delete deletion) same = absurd (no_found_room (nat_lt number 9223372036854775807) number n (Delete_entry client deletion) tables same)
found_asks points number client n tables (statement.Select field measurement) same = (field, measurement, refl)
found_asks points number client n tables (statement.After wanted) same = absurd (no_found_after (nat_le wanted number) number n tables same)
found_asks points number client n tables (statement.Refused refusal) same = cc same
found_asks points number client n tables statement.NotBuilt same = cc same

no_select : (wanted : ℕ) (field measurement : List ℕ) → statement.After wanted ≡ statement.Select field measurement → ⊥
no_select wanted field measurement same = cc same

module _ (one : RequestsMeanOne) where
  meanings_differ : (a c : Answer) (n m : ℕ) (tables : List Table) → a.request ≡ c.request → a.moment ≡ c.moment → Meant a → Meant c
      → a.reply ≡ Reached n → c.reply ≡ Found m tables → ⊥
  meanings_differ a c n m tables request moment (inl aside) meant short long = subst (λ (r : Reply). IsOfStore r) short aside
  meanings_differ a c n m tables request moment (inr first) (inl aside) short long = subst (λ (r : Reply). IsOfStore r) long aside
  meanings_differ a c n m tables request moment (inr first) (inr second) short long =
      let after = reached_asks first.points first.number first.client n first.asks (sym first.reply ∙ short) in
      let select = found_asks second.points second.number second.client m tables second.asks (sym second.reply ∙ long) in
      let there : Means a.request a.moment second.asks =
      subst (λ (r : Request). Means r a.moment second.asks) (sym request) (subst (λ (t : ℤ). Means c.request t second.asks) (sym moment) second.means) in
      no_select after.0 select.0 select.1 (sym after.1 ∙ one a.request a.moment first.asks second.asks first.means there ∙ select.2)

  -- a whole reply is no front of the reply to the same request
  no_part : (a c : Answer) (part rest : List ℕ) → IsReadable a.reply → IsReadable c.reply → Meant a → Meant c → a.request ≡ c.request → a.moment ≡ c.moment
      → 0 < length rest → text c.reply ≡ part ++ rest → text a.reply ≡ part → ⊥
  no_part a c part rest first second meant other request moment some whole same =
      elim (replies_meet a.reply c.reply rest [] first second (ap (λ (l : List ℕ). l ++ rest) same ∙ sym whole ∙ sym (append-nil (text c.reply)))) [
        | inl equal ↦ (let none = ap length equal.1 in omega (arith, none, some))
        | inr (inl front) ↦ meanings_differ a c front.number front.number front.tables request moment meant other front.short front.long
        | inr (inr front) ↦ tables_written front.tables rest front.behind
      ]

  written_goes_on : (answers : List Answer) (part : List ℕ) → goes_on part ≡ true → goes_on (written answers ++ part) ≡ true
  written_goes_on [] part goes = goes
  written_goes_on (a ∷ more) part goes =
      subst (λ (t : List ℕ). goes_on t ≡ true) (sym (append_assoc (text a.reply) (written more) part)) (reply_goes_on a.reply (written more ++ part))

  -- no transcript has one dialogue with all replies whole, and one with the last cut short
  no_longer : (xs ys : List Answer) (c : Answer) (part rest : List ℕ) → All IsReadableAnswer xs → All IsReadableAnswer ys → IsReadable c.reply
      → All Meant xs → Meant c → asked xs ≡ asked (ys ++ c ∷ []) → moments xs ≡ moments (ys ++ c ∷ [])
      → 0 < length rest → text c.reply ≡ part ++ rest → goes_on part ≡ true → written xs ++ [] ≡ written ys ++ part → ⊥
  no_longer [] [] c part rest first second readable meant other requests times some whole goes same = cc requests
  no_longer [] (b ∷ ys) c part rest first second readable meant other requests times some whole goes same = cc requests
  no_longer (a ∷ []) [] c part rest first second readable meant other requests times some whole goes same =
      no_part a c part rest (all_head IsReadableAnswer a [] first) readable (all_head Meant a [] meant) other (cc requests) (cc times) some whole
      (sym (append-nil (text a.reply)) ∙ sym (append-nil (text a.reply ++ [])) ∙ same)
  no_longer (a ∷ a' ∷ xs) [] c part rest first second readable meant other requests times some whole goes same = cc requests
  no_longer (a ∷ xs) (b ∷ ys) c part rest first second readable meant other requests times some whole goes same =
      let here = reply_one a.reply b.reply (written xs ++ []) (written ys ++ part) (all_head IsReadableAnswer a xs first) (all_head IsReadableAnswer b ys second)
      (written_goes_on xs [] nothing_goes_on) (written_goes_on ys part goes)
      (sym (append_assoc (text a.reply) (written xs) []) ∙ same ∙ append_assoc (text b.reply) (written ys) part) in
      no_longer xs ys c part rest (all_tail IsReadableAnswer a xs first) (all_tail IsReadableAnswer b ys second) readable (all_tail Meant a xs meant) other
      (cc requests) (cc times) some whole goes here.1

  fronts_one : (xs ys u v : List Request) → length xs ≡ length ys → xs ++ u ≡ ys ++ v → xs ≡ ys
  fronts_one [] [] u v count same = refl
  fronts_one [] (y ∷ ys) u v count same = absurd (omega (arith, count))
  fronts_one (x ∷ xs) [] u v count same = absurd (omega (arith, count))
  fronts_one (x ∷ xs) (y ∷ ys) u v count same =
      let head : x ≡ y = cc same in
      let tail = fronts_one xs ys u v (omega (arith, count)) (cc same) in
      cc (head, tail)

  -- where one dialogue is whole and one is cut short, memory was wanted, and both were asked the same
  same_asked : (end : End) (ended : Bool) (bytes : List ℕ) (first second : List Request) (c : Answer) → length first ≡ length second
      → HasAsked end ended bytes first None → HasAsked end ended bytes second (Some c) → first ≡ second
  same_asked Read ended bytes first second c count whole short = let no = short.2 in cc no
  same_asked SourceFault ended bytes first second c count whole short = let no = short.1 in cc no
  same_asked SinkFault ended bytes first second c count whole short = let no = whole.2 in cc no
  same_asked Memory ended bytes first second c count whole short = fronts_one first second whole.0 short.0 count (sym whole.1 ∙ short.1)

  asked_count : (xs ys : List Answer) → moments xs ≡ moments ys → length (asked xs) ≡ length (asked ys)
  asked_count xs ys same =
      length-map xs (λ (a : Answer). a.request) ∙ sym (length-map xs (λ (a : Answer). a.moment)) ∙ ap length same
      ∙ length-map ys (λ (a : Answer). a.moment) ∙ sym (length-map ys (λ (a : Answer). a.request))

  more_count : (xs ys : List Answer) (c d : Answer) → moments (xs ++ c ∷ []) ≡ moments (ys ++ d ∷ []) → length xs ≡ length ys
  more_count [] [] c d same = refl
  more_count [] (b ∷ []) c d same = cc same
  more_count [] (b ∷ b' ∷ ys) c d same = cc same
  more_count (a ∷ []) [] c d same = cc same
  more_count (a ∷ a' ∷ xs) [] c d same = cc same
  more_count (a ∷ xs) (b ∷ ys) c d same = let rest = more_count xs ys c d (cc same) in omega (arith, rest)

  plain_count : (xs ys : List Answer) → moments (xs ++ []) ≡ moments (ys ++ []) → length xs ≡ length ys
  plain_count xs ys same =
      sym (length-map xs (λ (a : Answer). a.moment)) ∙ ap length (ap moments (sym (append-nil xs)) ∙ same ∙ ap moments (append-nil ys)) ∙ length-map ys (λ (a : Answer). a.moment)

  -- one dialogue is whole, and one is cut short
  no_mix : (end : End) (ended : Bool) (bytes : List ℕ) (xs ys : List Answer) (c : Answer) (none part : List ℕ)
      → HasAsked end ended bytes (asked (xs ++ [])) None → HasAsked end ended bytes (asked (ys ++ c ∷ [])) (Some c)
      → moments (xs ++ []) ≡ moments (ys ++ c ∷ []) → All IsReadableAnswer (xs ++ []) → All IsReadableAnswer (ys ++ c ∷ [])
      → All Meant (xs ++ []) → All Meant (ys ++ c ∷ []) → IsCutShort none None → IsCutShort part (Some c)
      → written xs ++ none ≡ written ys ++ part → ⊥
  no_mix end ended bytes xs ys c none part whole short times first second meant other empty front same =
      let alone : xs ++ [] ≡ xs = append-nil xs in
      let requests = same_asked end ended bytes (asked (xs ++ [])) (asked (ys ++ c ∷ [])) c (asked_count (xs ++ []) (ys ++ c ∷ []) times) whole short in
      no_longer xs ys c part front.0 (all_front IsReadableAnswer xs [] first) (all_front IsReadableAnswer ys (c ∷ []) second)
      (all_head IsReadableAnswer c [] (all_back IsReadableAnswer ys (c ∷ []) second)) (all_front Meant xs [] meant)
      (all_head Meant c [] (all_back Meant ys (c ∷ []) other)) (ap asked (sym alone) ∙ requests) (ap moments (sym alone) ∙ times)
      front.1 front.2 (part_goes_on part (Some c) front) (ap (λ (l : List ℕ). written xs ++ l) (sym empty) ∙ same)

  -- as many replies were written whole
  as_many_whole : (end : End) (ended : Bool) (bytes : List ℕ) (xs ys : List Answer) (cut short : Option Answer) (part other_part : List ℕ)
      → HasAsked end ended bytes (asked (xs ++ option_to_list cut)) cut → HasAsked end ended bytes (asked (ys ++ option_to_list short)) short
      → moments (xs ++ option_to_list cut) ≡ moments (ys ++ option_to_list short)
      → All IsReadableAnswer (xs ++ option_to_list cut) → All IsReadableAnswer (ys ++ option_to_list short)
      → All Meant (xs ++ option_to_list cut) → All Meant (ys ++ option_to_list short) → IsCutShort part cut → IsCutShort other_part short
      → written xs ++ part ≡ written ys ++ other_part → length xs ≡ length ys
  as_many_whole end ended bytes xs ys None None part other_part asks other_asks times first second meant other front further same = plain_count xs ys times
  as_many_whole end ended bytes xs ys (Some c) (Some d) part other_part asks other_asks times first second meant other front further same = more_count xs ys c d times
  as_many_whole end ended bytes xs ys None (Some d) part other_part asks other_asks times first second meant other front further same =
      absurd (no_mix end ended bytes xs ys d part other_part asks other_asks times first second meant other front further same)
  as_many_whole end ended bytes xs ys (Some c) None part other_part asks other_asks times first second meant other front further same =
      absurd (no_mix end ended bytes ys xs c other_part part other_asks asks (sym times) second first other meant further front (sym same))

  pub explanations_one : (tells : Bool) (start other : State) (history further_history : List Entry) (client further_client place further_place : ℕ)
      (transcript : Transcript) (dialogue further : Dialogue)
      (first : IsTold tells AnyCause start history client transcript dialogue place)
      (second : IsTold tells AnyCause other further_history further_client transcript further further_place)
      → (map (λ answer. answer.reply) dialogue.answers ≡ map (λ answer. answer.reply) further.answers) × (first.records.part ≡ second.records.part)
  explanations_one tells start other history further_history client further_client place further_place transcript dialogue further first second =
      counted_one (start.number + place) (other.number + further_place) transcript dialogue further first.records second.records
      (as_many_whole transcript.report.end transcript.ended transcript.read dialogue.answers further.answers dialogue.cut further.cut
      first.records.part second.records.part first.records.asked second.records.asked (sym first.records.moments ∙ second.records.moments)
      first.records.readable second.records.readable
      (places_meant tells start history client place (all_answers dialogue) first.places)
      (places_meant tells other further_history further_client further_place (all_answers further) second.places)
      first.records.cut_short second.records.cut_short (sym first.records.written ∙ second.records.written))
