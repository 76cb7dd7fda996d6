-- How a session that has taken all that it read concludes.
use Rattle.std.proofs.Common.{Bool, true, ◌≡◌, ℕ, List, [], ◌∷◌, ◌++◌, refl, sym, ap, ◌∙◌, append_assoc, Some, None}
use Rattle.std.proofs.lemmas.List.{append-nil, map-append}
use Rattle.session_io.specs.declared.report.End.{End}
use Rattle.session_io.specs.declared.report.End.TheVariants.{Read, SourceFault, SinkFault, Memory}
use Rattle.session_loop.specs.declared.pending.Pending.{Pending}
use Rattle.session_model.specs.Lines.{Request}
use Rattle.session_model.specs.Machine.{Answer}
use Rattle.session_model.specs.Explained.{HasAsked, complete_requests}
use Rattle.session_loop.specs.Progress.{Moment, Takes, Stops, Finishes, FinishesShort, Concludes, requests_of}
use Rattle.session_loop.proofs.CuttingLemmas.{more_complete}
use Rattle.session_loop.proofs.GoingLemmas.{answered_more}

asked_more : (xs ys : List Answer) → requests_of xs ++ requests_of ys ≡ requests_of (xs ++ ys)
asked_more xs ys = sym (map-append (λ (answer : Answer). answer.request) xs ys)

pub concludes_fault : (a b : Moment) (pending : Pending) (read : List ℕ) (ended : Bool) → Takes a b pending [] read → Concludes a b read ended SourceFault
concludes_fault a b pending read ended taken = record {
  answers = taken.answers;
  cut = None;
  mid = b;
  answered = taken.answered;
  cut_short = refl;
  asked = (ap requests_of (append-nil taken.answers) ∙ sym taken.asked, refl);
}

pub concludes_read : (a b c : Moment) (pending : Pending) (read : List ℕ) (ended : Bool) → ended ≡ true → Takes a b pending [] read → Finishes b c read → Concludes a c read ended Read
concludes_read a b c pending read ended over taken finished = record {
  answers = taken.answers ++ finished.answers;
  cut = None;
  mid = c;
  answered = answered_more a b c taken.answers finished.answers taken.answered finished.answered;
  cut_short = refl;
  asked = (
    over,
    ap requests_of (append-nil (taken.answers ++ finished.answers)) ∙ sym (asked_more taken.answers finished.answers)
        ∙ ap (λ (l : List Request). l ++ requests_of finished.answers) (sym taken.asked) ∙ sym finished.asked,
    refl,
  );
}

-- the sink stopped the session
abbrev pub IsSinkEnd : End → Type 0
IsSinkEnd Read = ⊥
IsSinkEnd SourceFault = ⊥
IsSinkEnd SinkFault = Unit {0}
IsSinkEnd Memory = Unit {0}

asked_front : (end : End) → IsSinkEnd end → (ended : Bool) (bytes : List ℕ) (asked : List Request) (answer : Answer) (more : List Request)
    → complete_requests ended bytes ≡ asked ++ more → HasAsked end ended bytes asked (Some answer)
asked_front Read sink ended bytes asked answer more is = absurd sink
asked_front SourceFault sink ended bytes asked answer more is = absurd sink
asked_front SinkFault sink ended bytes asked answer more is = (more, is, refl)
asked_front Memory sink ended bytes asked answer more is = (more, is)

pub concludes_short : (a b c : Moment) (pending : Pending) (read : List ℕ) (ended : Bool) (end : End) → ended ≡ true → IsSinkEnd end → Takes a b pending [] read → FinishesShort b c read → Concludes a c read ended end
concludes_short a b c pending read ended end over sink taken finished = record {
  answers = taken.answers;
  cut = Some finished.answer;
  mid = b;
  answered = taken.answered;
  cut_short = finished.cut_short;
  asked = asked_front end sink ended read (requests_of (taken.answers ++ finished.answer ∷ [])) finished.answer []
      (ap (λ (t : Bool). complete_requests t read) over ∙ finished.asked ∙ ap (λ (l : List Request). l ++ requests_of (finished.answer ∷ [])) taken.asked
      ∙ asked_more taken.answers (finished.answer ∷ []) ∙ sym (append-nil (requests_of (taken.answers ++ finished.answer ∷ []))));
}

pub concludes_stop : (a b c : Moment) (pending : Pending) (read piece : List ℕ) (ended : Bool) (end : End) → IsSinkEnd end → Takes a b pending [] read → Stops b c read piece → Concludes a c (read ++ piece) ended end
concludes_stop a b c pending read piece ended end sink taken stopped =
    let rest = more_complete ended (read ++ stopped.front) stopped.back in
    record {
      answers = taken.answers ++ stopped.answers;
      cut = Some stopped.answer;
      mid = stopped.mid;
      answered = answered_more a b stopped.mid taken.answers stopped.answers taken.answered stopped.answered;
      cut_short = stopped.cut_short;
      asked = asked_front end sink ended (read ++ piece) (requests_of ((taken.answers ++ stopped.answers) ++ stopped.answer ∷ [])) stopped.answer rest.more
          (ap (λ (l : List ℕ). complete_requests ended (read ++ l)) stopped.whole ∙ ap (complete_requests ended) (sym (append_assoc read stopped.front stopped.back)) ∙ rest.is
          ∙ ap (λ (l : List Request). l ++ rest.more) (stopped.asked
          ∙ ap (λ (l : List Request). l ++ requests_of (stopped.answers ++ stopped.answer ∷ [])) taken.asked
          ∙ asked_more taken.answers (stopped.answers ++ stopped.answer ∷ [])
          ∙ ap requests_of (sym (append_assoc taken.answers stopped.answers (stopped.answer ∷ [])))));
    }
