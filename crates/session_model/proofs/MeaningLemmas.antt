-- A request says one thing.
use Rattle.std.proofs.Common.{◌≡◌, ◌⊎◌, inl, inr, ℕ, ℤ, Bool, true, false, List, ◌∷◌, ◌++◌, refl, ap, sym, ◌∙◌, append_assoc, codes, Option, Some, None, MatchOption, if◌then◌else◌}
use Rattle.std.specs.List.{list_any}
use Rattle.std.proofs.lemmas.List.{append_cancel_left}
use Rattle.line_protocol.specs.Batches.{At}
use Rattle.line_protocol.specs.Once.{OneBatch, OneFault, NeverBoth}
use Rattle.influxql_parser.specs.GrammarDeletions.{DeletionText}
use Rattle.influxql_parser.specs.Deletions.{BeginsDeletion, ReadsAs, IsNoDeletion, OneDeletion, deletion_of, has_time_in_or, is_out_of_range, tests_of}
use Rattle.session_model.specs.declared.statement.Refusal.{Refusal}
use Rattle.session_model.specs.declared.statement.Refusal.TheVariants.{Protocol, LineTooLong, BatchCut, NotText, Syntax, TimeInOr, NumberRange}
use Rattle.session_model.specs.declared.statement.Statement.{Statement}
use Rattle.session_model.specs.declared.statement.Statement.TheVariants.{Write, Delete, Select, After, Refused, NotBuilt}
use Rattle.session_model.specs.Lines.{Request}
use Rattle.session_model.specs.Lines.Request.{Line, Batch}
use Rattle.session_model.specs.Words.{IsWord, is_letter_or_digit, inserted_line, after_number}
use Rattle.session_model.specs.Readable.{Lacks}
use Rattle.session_model.specs.Requests.{SaysSelect, TextSays, SelectSays, DeletionSays, WordsSay, Says, batch_text, refusal_of}
use Rattle.session_model.specs.Laws.{RequestsMeanOne}
use Rattle.session_model.proofs.TextLemmas.{cut_at, lacks_other}

word_spaceless : (word : List ℕ) → IsWord word → Lacks 32 word
word_spaceless word is = lacks_other is_letter_or_digit 32 refl word is.each

select_parts : (field measurement : List ℕ) → codes "SELECT " ++ field ++ codes " FROM " ++ measurement ≡ codes "SELECT " ++ (field ++ 32 ∷ (codes "FROM " ++ measurement))
select_parts field measurement = append_assoc (codes "SELECT " ++ field) (codes " FROM ") measurement ∙ append_assoc (codes "SELECT ") field (codes " FROM " ++ measurement)

-- a line is one SELECT at most
selects_one : (line field measurement other further : List ℕ) → SaysSelect line field measurement → SaysSelect line other further → (field ≡ other) × (measurement ≡ further)
selects_one line field measurement other further first second =
    let parts = cut_at 32 field other (codes "FROM " ++ measurement) (codes "FROM " ++ further) (word_spaceless field first.of_field) (word_spaceless other second.of_field)
    (append_cancel_left (codes "SELECT ") (field ++ 32 ∷ (codes "FROM " ++ measurement)) (other ++ 32 ∷ (codes "FROM " ++ further))
    (sym (select_parts field measurement) ∙ sym first.spelled ∙ second.spelled ∙ select_parts other further)) in
    (parts.0, append_cancel_left (codes "FROM ") measurement further parts.1)

select_one : (line : List ℕ) (first second : Statement) → SelectSays line first → SelectSays line second → first ≡ second
select_one line (Select field measurement) (Select other further) is that =
    let parts = selects_one line field measurement other further is that in
    ap (λ (f : List ℕ). Select f measurement) parts.0 ∙ ap (λ (m : List ℕ). Select other m) parts.1
select_one line (Select field measurement) NotBuilt is that = absurd (that field measurement is)
select_one line (Select field measurement) (Write points) is that = absurd that
select_one line (Select field measurement) (Delete deletion) is that = absurd that
select_one line (Select field measurement) (After number) is that = absurd that
select_one line (Select field measurement) (Refused refusal) is that = absurd that
select_one line NotBuilt (Select field measurement) is that = absurd (is field measurement that)
select_one line NotBuilt NotBuilt is that = refl
select_one line NotBuilt (Write points) is that = absurd that
select_one line NotBuilt (Delete deletion) is that = absurd that
select_one line NotBuilt (After number) is that = absurd that
select_one line NotBuilt (Refused refusal) is that = absurd that
select_one line (Write points) second is that = absurd is
select_one line (Delete deletion) second is that = absurd is
select_one line (After number) second is that = absurd is
select_one line (Refused refusal) second is that = absurd is

-- what a reading of a deletion says
said_of : DeletionText → Statement
said_of read = if has_time_in_or read.condition then Refused TimeInOr
    else if list_any is_out_of_range (tests_of read.condition) then Refused NumberRange else Delete (deletion_of read)

said_late : (read : DeletionText) → has_time_in_or read.condition ≡ true → said_of read ≡ Refused TimeInOr
unfolding said_of
said_late read late = ap (λ (t : Bool). if t then Refused TimeInOr else if list_any is_out_of_range (tests_of read.condition) then Refused NumberRange else Delete (deletion_of read)) late

said_apart : (read : DeletionText) (far : Bool) → has_time_in_or read.condition ≡ false → list_any is_out_of_range (tests_of read.condition) ≡ far
    → said_of read ≡ (if far then Refused NumberRange else Delete (deletion_of read))
unfolding said_of
said_apart read far apart is =
    ap (λ (t : Bool). if t then Refused TimeInOr else if list_any is_out_of_range (tests_of read.condition) then Refused NumberRange else Delete (deletion_of read)) apart
    ∙ ap (λ (t : Bool). if t then Refused NumberRange else Delete (deletion_of read)) is

-- it is what its reading says, or has none
abbrev IsSaid : List ℕ → ℤ → Statement → Type 0
IsSaid line moment asks = ((read : DeletionText) × ReadsAs line moment read × (asks ≡ said_of read)) ⊎ (IsNoDeletion line moment × (asks ≡ Refused Syntax))

said : (line : List ℕ) (moment : ℤ) (asks : Statement) → DeletionSays line moment asks → IsSaid line moment asks
said line moment (Delete deletion) is = inl (is.read, is.reads, ap Delete is.means ∙ sym (said_apart is.read false is.times_apart is.in_range))
said line moment (Refused Syntax) is = inr (is, refl)
said line moment (Refused TimeInOr) is = inl (is.0, is.1, sym (said_late is.0 is.2))
said line moment (Refused NumberRange) is = inl (is.0, is.1, sym (said_apart is.0 true is.2 is.3))
said line moment (Refused (Protocol code number)) is = absurd is
said line moment (Refused LineTooLong) is = absurd is
said line moment (Refused BatchCut) is = absurd is
said line moment (Refused NotText) is = absurd is
said line moment (Write points) is = absurd is
said line moment (Select field measurement) is = absurd is
said line moment (After number) is = absurd is
said line moment NotBuilt is = absurd is

module _ (one_deletion : OneDeletion) where
  said_one : (line : List ℕ) (moment : ℤ) (first second : Statement) → IsSaid line moment first → IsSaid line moment second → first ≡ second
  said_one line moment first second (inl is) (inl that) = is.2 ∙ ap said_of (one_deletion line moment is.0 that.0 is.1 that.1) ∙ sym that.2
  said_one line moment first second (inl is) (inr none) = absurd (none.0 is.0 is.1)
  said_one line moment first second (inr none) (inl that) = absurd (none.0 that.0 that.1)
  said_one line moment first second (inr none) (inr also) = none.1 ∙ sym also.1

  statement_one : (line : List ℕ) (moment : ℤ) (first second : Statement) → WordsSay line moment first → WordsSay line moment second → first ≡ second
  statement_one line moment first second (inl is) (inl that) = said_one line moment first second (said line moment first is.1) (said line moment second that.1)
  statement_one line moment first second (inl is) (inr that) = absurd (that.0 is.0)
  statement_one line moment first second (inr is) (inl that) = absurd (is.0 that.0)
  statement_one line moment first second (inr is) (inr that) = select_one line first second is.1 that.1

module _ (one_batch : OneBatch) (one_fault : OneFault) (never_both : NeverBoth) (one_deletion : OneDeletion) where
  text_one : (text : List ℕ) (moment : ℤ) (first second : Statement) → TextSays text moment first → TextSays text moment second → first ≡ second
  text_one text moment (Write points) (Write others) is that = ap Write (one_batch text moment points others is that)
  text_one text moment (Write points) (Refused (Protocol code line)) is that = absurd (never_both text moment points (record { code = code; line = line }) is that)
  text_one text moment (Write points) (Refused LineTooLong) is that = absurd that
  text_one text moment (Write points) (Refused BatchCut) is that = absurd that
  text_one text moment (Write points) (Refused NotText) is that = absurd that
  text_one text moment (Write points) (Refused Syntax) is that = absurd that
  text_one text moment (Write points) (Refused TimeInOr) is that = absurd that
  text_one text moment (Write points) (Refused NumberRange) is that = absurd that
  text_one text moment (Write points) (Delete deletion) is that = absurd that
  text_one text moment (Write points) (Select field measurement) is that = absurd that
  text_one text moment (Write points) (After number) is that = absurd that
  text_one text moment (Write points) NotBuilt is that = absurd that
  text_one text moment (Refused (Protocol code line)) (Write others) is that = absurd (never_both text moment others (record { code = code; line = line }) that is)
  text_one text moment (Refused (Protocol code line)) (Refused (Protocol other number)) is that =
      let same = one_fault text moment (record { code = code; line = line }) (record { code = other; line = number }) is that in
      ap (λ (at : At). Refused (Protocol at.code at.line)) same
  text_one text moment (Refused (Protocol code line)) (Refused LineTooLong) is that = absurd that
  text_one text moment (Refused (Protocol code line)) (Refused BatchCut) is that = absurd that
  text_one text moment (Refused (Protocol code line)) (Refused NotText) is that = absurd that
  text_one text moment (Refused (Protocol code line)) (Refused Syntax) is that = absurd that
  text_one text moment (Refused (Protocol code line)) (Refused TimeInOr) is that = absurd that
  text_one text moment (Refused (Protocol code line)) (Refused NumberRange) is that = absurd that
  text_one text moment (Refused (Protocol code line)) (Delete deletion) is that = absurd that
  text_one text moment (Refused (Protocol code line)) (Select field measurement) is that = absurd that
  text_one text moment (Refused (Protocol code line)) (After number) is that = absurd that
  text_one text moment (Refused (Protocol code line)) NotBuilt is that = absurd that
  text_one text moment (Refused LineTooLong) second is that = absurd is
  text_one text moment (Refused BatchCut) second is that = absurd is
  text_one text moment (Refused NotText) second is that = absurd is
  text_one text moment (Refused Syntax) second is that = absurd is
  text_one text moment (Refused TimeInOr) second is that = absurd is
  text_one text moment (Refused NumberRange) second is that = absurd is
  text_one text moment (Delete deletion) second is that = absurd is
  text_one text moment (Select field measurement) second is that = absurd is
  text_one text moment (After number) second is that = absurd is
  text_one text moment NotBuilt second is that = absurd is

  number_one : (asked : Option ℕ) (line : List ℕ) (moment : ℤ) (first second : Statement)
      → MatchOption asked (WordsSay line moment first) (λ number. first ≡ After number)
      → MatchOption asked (WordsSay line moment second) (λ number. second ≡ After number) → first ≡ second
  number_one None line moment first second is that = statement_one one_deletion line moment first second is that
  number_one (Some number) line moment first second is that = is ∙ sym that

  words_one : (inserted : Option (List ℕ)) (line : List ℕ) (moment : ℤ) (first second : Statement)
      → MatchOption inserted (MatchOption (after_number line) (WordsSay line moment first) (λ number. first ≡ After number)) (λ text. TextSays text moment first)
      → MatchOption inserted (MatchOption (after_number line) (WordsSay line moment second) (λ number. second ≡ After number)) (λ text. TextSays text moment second)
      → first ≡ second
  words_one None line moment first second is that = number_one (after_number line) line moment first second is that
  words_one (Some text) line moment first second is that = text_one text moment first second is that

  says_one : (request : Request) (moment : ℤ) (first second : Statement) → Says request moment first → Says request moment second → first ≡ second
  says_one (Line line) moment first second is that = words_one (inserted_line line) line moment first second is that
  says_one (Batch count lines rest) moment first second is that = text_one (batch_text lines rest) moment first second is that

  refusal_one : (refusal : Option Refusal) (request : Request) (moment : ℤ) (first second : Statement)
      → MatchOption refusal (Says request moment first) (λ r. first ≡ Refused r)
      → MatchOption refusal (Says request moment second) (λ r. second ≡ Refused r) → first ≡ second
  refusal_one None request moment first second is that = says_one request moment first second is that
  refusal_one (Some refusal) request moment first second is that = is ∙ sym that

  pub meanings_one : RequestsMeanOne
  meanings_one request moment first second is that = refusal_one (refusal_of request) request moment first second is that
