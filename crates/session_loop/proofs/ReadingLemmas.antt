-- What a request asks for, by its parts.
use Rattle.std.proofs.Common.{◌≡◌, ◌≢◌, ◌<◌, ◌≤◌, ℕ, ℤ, Bool, true, false, not, nat_lt, ◌==◌, List, [], ◌∷◌, ◌++◌, length, drop, refl, sym, ap, ◌∙◌, subst, arith, inl, inr, append_assoc, codes, Option, Some, None, MatchOption, Result, Ok, Err, IfOk}
use Rattle.std.specs.List.{list_all}
use Rattle.std.specs.Str.{IsUtf8, is_utf8}
use Rattle.std.specs.Prelude.{MatchBool, IfSome, IfNone, ⊤}
use Rattle.std.specs.declared.alloc.AllocError.{AllocError}
use Rattle.std.proofs.lemmas.Bool.Decides.{nat_tests, eqb_tells}
use Rattle.std.proofs.lemmas.Str.{is_utf8-from_IsUtf8, IsUtf8-from_is_utf8}
use Rattle.point_model.specs.declared.deletion.Deletion.{Deletion}
use Rattle.influxql_parser.specs.declared.fault.ReadFault.{ReadFault}
use Rattle.influxql_parser.specs.declared.fault.ReadFault.TheVariants as read_fault
use Rattle.influxql_parser.specs.Deletions.{BeginsDeletion, DeletionsBegin, IsDeletion, IsRefusedDeletion}
use Rattle.session_model.specs.declared.statement.Refusal.{Refusal}
use Rattle.session_model.specs.declared.statement.Refusal.TheVariants.{LineTooLong, NotText, Syntax, TimeInOr, NumberRange}
use Rattle.session_model.specs.declared.statement.Statement.{Statement}
use Rattle.session_model.specs.declared.statement.Statement.TheVariants as statement
use Rattle.session_model.specs.Readable.{Lacks}
use Rattle.session_model.specs.Lines.{Request}
use Rattle.session_model.specs.Lines.Request.{Line}
use Rattle.session_model.specs.Words.{IsWord}
use Rattle.session_model.specs.Requests.{Means, Says, LineSays, TextSays, SaysSelect, SelectSays, WordsSay, first_of, refusal_of}
use Rattle.session_model.proofs.TextLemmas.{cut_at, and_parts}
use Rattle.session_loop.specs.Cuts.{CutsAt}
use Rattle.session_loop.specs.LineAsItComes.{StandsFor}
use Rattle.session_loop.specs.Asked.{TextOrNoneSays}
use Rattle.session_loop.proofs.GatheringLemmas.{is_long_at}
use Rattle.session_loop.proofs.WordLemmas.{word_lacks}

regroup_short : (a f b m : List ℕ) → a ++ f ++ b ++ m ≡ a ++ (f ++ (b ++ m))
regroup_short a f b m = simp append_assoc

not_there : (byte : ℕ) (front back : List ℕ) → Lacks byte (front ++ byte ∷ back) → ⊥
not_there byte [] back lacks =
    let here = (and_parts (not (byte == byte)) (list_all (λ b. not (b == byte)) back) lacks).0 in
    elim (eqb_tells byte byte) [ inl same ↦ cc (ap not same.0, here) | inr other ↦ other.1 refl ]
not_there byte (x ∷ front) back lacks = not_there byte front back (and_parts (not (x == byte)) (list_all (λ b. not (b == byte)) (front ++ byte ∷ back)) lacks).1

-- a text that is cut at its first such byte is cut nowhere else
pub cut_same : (byte : ℕ) (text front back a b : List ℕ) → CutsAt byte text front back → Lacks byte a → text ≡ a ++ byte ∷ b → (front ≡ a) × (back ≡ b)
cut_same byte text front back a b cut lacks same = cut_at byte front a back b cut.first lacks (sym cut.whole ∙ same)

cut_none : (byte : ℕ) (text a b : List ℕ) → Lacks byte text → text ≡ a ++ byte ∷ b → ⊥
cut_none byte text a b lacks same = not_there byte a b (subst (λ (l : List ℕ). Lacks byte l) same lacks)

pub none_of : {T : Type 0} (o : Option T) (P : Type 0) (Q : T → Type 0) → o ≡ None → MatchOption o P Q → P
none_of o P Q is h = subst (λ (x : Option _). MatchOption x P Q) is h

module _ (text : List ℕ) where
  select_spelled : (field measurement : List ℕ) → (says : SaysSelect (codes "SELECT " ++ text) field measurement) → text ≡ field ++ 32 ∷ (codes "FROM " ++ measurement)
  select_spelled field measurement says = ap (drop 7) (says.spelled ∙ regroup_short (codes "SELECT ") field (codes " FROM ") measurement)

  pub no_column : Lacks 32 text → (field measurement : List ℕ) → ¬ (SaysSelect (codes "SELECT " ++ text) field measurement)
  no_column lacks field measurement says = cut_none 32 text field (codes "FROM " ++ measurement) lacks (select_spelled field measurement says)

  module _ (column rest : List ℕ) (cut : CutsAt 32 text column rest) where
    select_parts : (field measurement : List ℕ) → (says : SaysSelect (codes "SELECT " ++ text) field measurement) → (column ≡ field) × (rest ≡ codes "FROM " ++ measurement)
    select_parts field measurement says = cut_same 32 text column rest field (codes "FROM " ++ measurement) cut (word_lacks 32 refl field says.of_field) (select_spelled field measurement says)

    pub no_from : ((r : List ℕ) → rest ≢ codes "FROM " ++ r) → (field measurement : List ℕ) → ¬ (SaysSelect (codes "SELECT " ++ text) field measurement)
    no_from never field measurement says = never measurement (select_parts field measurement says).1

    pub no_column_word : ¬ (IsWord column) → (field measurement : List ℕ) → ¬ (SaysSelect (codes "SELECT " ++ text) field measurement)
    no_column_word never field measurement says = never (subst (λ (l : List ℕ). IsWord l) (sym (select_parts field measurement says).0) says.of_field)

    module _ (of : List ℕ) (from : rest ≡ codes "FROM " ++ of) where
      pub no_table_word : ¬ (IsWord of) → (field measurement : List ℕ) → ¬ (SaysSelect (codes "SELECT " ++ text) field measurement)
      no_table_word never field measurement says =
          let same : measurement ≡ of = ap (drop 5) (sym (select_parts field measurement says).1 ∙ from) in
          never (subst (λ (l : List ℕ). IsWord l) same says.of_measurement)

      pub some_select : IsWord column → IsWord of → SaysSelect (codes "SELECT " ++ text) column of
      some_select of_field of_measurement = record {
        spelled = ap (λ (l : List ℕ). codes "SELECT " ++ l) (cut.whole ∙ ap (λ (l : List ℕ). column ++ 32 ∷ l) from) ∙ sym (regroup_short (codes "SELECT ") column (codes " FROM ") of);
        of_field = of_field;
        of_measurement = of_measurement;
      }

-- Whether the first word of a line is DELETE or DROP.

-- the refusal that tells a fault of the reader
abbrev pub refused_for : ReadFault → Option Refusal
refused_for read_fault.Syntax = Some Syntax
refused_for read_fault.TimeInOr = Some TimeInOr
refused_for read_fault.NumberRange = Some NumberRange
refused_for read_fault.Memory = None

module _ (begin : DeletionsBegin) (line : List ℕ) (now moment : ℤ) (same : now ≡ moment) where
  pub deletion_said : (read : Option Deletion) (deletion : Deletion) → read ≡ Some deletion → IfSome read (IsDeletion line now) → WordsSay line moment (statement.Delete deletion)
  deletion_said None deletion is found = cc is
  deletion_said (Some other) deletion is found =
      let here : IsDeletion line now deletion = subst (λ (o : Option Deletion). IfSome o (IsDeletion line now)) is found in
      subst (λ (n : ℤ). WordsSay line n (statement.Delete deletion)) same (inl (begin line now here.read here.reads, here))

  pub refused_said : (fault : ReadFault) → IsRefusedDeletion line now fault → MatchOption (refused_for fault) ⊤ (λ refusal. WordsSay line moment (statement.Refused refusal))
  refused_said read_fault.Syntax is = subst (λ (n : ℤ). WordsSay line n (statement.Refused Syntax)) same (inl (is.0, is.1))
  refused_said read_fault.TimeInOr is = subst (λ (n : ℤ). WordsSay line n (statement.Refused TimeInOr)) same (inl (begin line now is.0 is.1, is))
  refused_said read_fault.NumberRange is = subst (λ (n : ℤ). WordsSay line n (statement.Refused NumberRange)) same (inl (begin line now is.0 is.1, is))
  refused_said read_fault.Memory is = tt

others_say : (line : List ℕ) (moment : ℤ) (read : Result Statement AllocError) → ¬ (BeginsDeletion line) → IfOk read (SelectSays line) → IfOk read (WordsSay line moment)
others_say line moment (Ok asks) none says = inr (none, says)
others_say line moment (Err error) none says = tt

pub others_said : (line bytes : List ℕ) (moment : ℤ) (read : Result Statement AllocError) (none : Option Deletion) → bytes ≡ line → none ≡ None → IfNone none (¬ (BeginsDeletion line))
    → IfOk read (SelectSays bytes) → IfOk read (WordsSay line moment)
others_said line bytes moment read None same is never says =
    others_say line moment read never (subst (λ (l : List ℕ). IfOk read (SelectSays l)) same says)
others_said line bytes moment read (Some deletion) same is never says = cc is

-- Whether a text is UTF-8.

is_not : (t : Bool) → (t ≡ true → ⊥) → t ≡ false
is_not true never = absurd (never refl)
is_not false never = refl

pub no_text : (text : List ℕ) → ¬ (IsUtf8 text) → is_utf8 text ≡ false
no_text text never = is_not (is_utf8 text) (λ is. never (IsUtf8-from_is_utf8 text is))

pub none_says : (text : List ℕ) (moment : ℤ) → ¬ (IsUtf8 text) → TextOrNoneSays text moment (statement.Refused NotText)
none_says text moment never = let says : Bool → Type 0 = λ t. MatchBool t (TextSays text moment (statement.Refused NotText)) (statement.Refused NotText ≡ statement.Refused NotText) in
    subst says (sym (no_text text never)) refl

pub text_says : (text : List ℕ) (moment : ℤ) (asks : Statement) → IsUtf8 text → TextSays text moment asks → TextOrNoneSays text moment asks
text_says text moment asks is says = let either : Bool → Type 0 = λ t. MatchBool t (TextSays text moment asks) (asks ≡ statement.Refused NotText) in
    subst either (sym (is_utf8-from_IsUtf8 text is)) says

pub texts_say : (text : List ℕ) (moment : ℤ) (read : Result Statement AllocError) → IsUtf8 text → IfOk read (TextSays text moment) → IfOk read (TextOrNoneSays text moment)
texts_say text moment (Ok asks) is says = text_says text moment asks is says
texts_say text moment (Err error) is says = tt

-- Whether a line is refused.

line_long : (text : List ℕ) → 65536 < length text → refusal_of (Line text) ≡ Some LineTooLong
unfolding refusal_of
line_long text long = ap (λ (t : Bool). first_of ((t, LineTooLong) ∷ (not (is_utf8 text), NotText) ∷ [])) (is_long_at text long)

line_short : (text : List ℕ) → length text ≤ 65536 → refusal_of (Line text) ≡ first_of ((not (is_utf8 text), NotText) ∷ [])
unfolding refusal_of
line_short text short =
    let test : nat_lt 65536 (length text) ≡ false = grind (arith, nat_tests) in
    ap (λ (t : Bool). first_of ((t, LineTooLong) ∷ (not (is_utf8 text), NotText) ∷ [])) test

means_by : (request : Request) (moment : ℤ) (asks : Statement) (refusal : Option Refusal) → refusal_of request ≡ refusal
    → MatchOption refusal (Says request moment asks) (λ why. asks ≡ statement.Refused why) → Means request moment asks
means_by request moment asks refusal is h = subst (λ (o : Option Refusal). MatchOption o (Says request moment asks) (λ why. asks ≡ statement.Refused why)) (sym is) h

pub long_means : (kept text : List ℕ) (moment : ℤ) → StandsFor 65536 kept text → 65536 < length kept → Means (Line text) moment (statement.Refused LineTooLong)
long_means kept text moment (inl same) long = means_by (Line text) moment (statement.Refused LineTooLong) (Some LineTooLong) (line_long text (let e = ap length same in omega arith)) refl
long_means kept text moment (inr longer) long = means_by (Line text) moment (statement.Refused LineTooLong) (Some LineTooLong) (line_long text longer.1) refl

pub same_text : (kept text : List ℕ) → StandsFor 65536 kept text → length kept ≤ 65536 → kept ≡ text
same_text kept text (inl same) short = same
same_text kept text (inr long) short = absurd (let l = long.0 in omega arith)

no_text_means : (text : List ℕ) (moment : ℤ) → length text ≤ 65536 → ¬ (IsUtf8 text) → Means (Line text) moment (statement.Refused NotText)
no_text_means text moment short never =
    means_by (Line text) moment (statement.Refused NotText) (Some NotText) (line_short text short ∙ ap (λ (t : Bool). first_of ((not t, NotText) ∷ [])) (no_text text never)) refl

text_means : (text : List ℕ) (moment : ℤ) (asks : Statement) → length text ≤ 65536 → IsUtf8 text → LineSays text moment asks → Means (Line text) moment asks
text_means text moment asks short is says =
    means_by (Line text) moment asks None (line_short text short ∙ ap (λ (t : Bool). first_of ((not t, NotText) ∷ [])) (is_utf8-from_IsUtf8 text is)) says

pub none_means : (kept text : List ℕ) (moment : ℤ) → StandsFor 65536 kept text → length kept ≤ 65536 → ¬ (IsUtf8 kept) → Means (Line text) moment (statement.Refused NotText)
none_means kept text moment stands short never =
    subst (λ (l : List ℕ). Means (Line l) moment (statement.Refused NotText)) (same_text kept text stands short) (no_text_means kept moment short never)

pub read_means : (kept : List ℕ) (moment : ℤ) (read : Result Statement AllocError) → length kept ≤ 65536 → IsUtf8 kept → IfOk read (LineSays kept moment)
    → IfOk read (λ asks. (text : List ℕ) → StandsFor 65536 kept text → Means (Line text) moment asks)
read_means kept moment (Ok asks) short is says = λ text stands.
    subst (λ (l : List ℕ). Means (Line l) moment asks) (same_text kept text stands short) (text_means kept moment asks short is says)
read_means kept moment (Err error) short is says = tt
