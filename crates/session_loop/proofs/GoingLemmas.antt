-- A session that goes on, and goes on again, has gone on.
use Rattle.std.proofs.Common.{◌≡◌, ◌<◌, ◌==◌, ◌&&◌, ◌||◌, nat_lt, length, arith, Bool, true, false, ◌+◌, ◌-◌, ◌^◌, min, max, fold, ℕ, ℤ, List, [], ◌∷◌, ◌++◌, refl, sym, ap, ◌∙◌, subst, append_assoc, Option, Some, None, Result, Ok, Err, OnOk, OnErr}
use Rattle.std.specs.List.{flat_map}
use Rattle.std.specs.Option.{option_to_list}
use Rattle.std.proofs.lemmas.List.{append-nil, map-append}
use Rattle.std.proofs.lemmas.Grind.{flat_map-append}
use Rattle.std.proofs.lemmas.Bool.Decides.{nat_tests}
use Rattle.session_io.specs.Streams.{Grows, Shrinks}
use Rattle.session_model.specs.Lines.{Request, Open, cut_of, with_line, ended_requests}
use Rattle.session_model.specs.Readable.{Lacks}
use Rattle.session_model.specs.Explained.{last_told}
use Rattle.session_model.specs.Machine.{Answer}
use Rattle.session_model.specs.Replies.{text}
use Rattle.session_loop.specs.declared.pending.Pending.{Pending}
use Rattle.session_loop.specs.Pendings.{Pends}
use Rattle.session_loop.specs.Steps.{Stored, Steps}
use Rattle.session_loop.specs.Progress.{Moment, Gives, Answered, Replied, StopsIn, Takes, Stops, HoldsLast, AnswersOne, StopsInOne, texts, requests_of, moments_of, counted}
use Rattle.session_loop.proofs.CuttingLemmas.{parts_longer, parts_line, cut_longer, cut_line}

pub grows_nothing : {X : Type 0} (told : Option (List X)) → Grows told told []
grows_nothing None = refl
grows_nothing (Some xs) = sym (append-nil xs)

pub grows_more : {X : Type 0} (a b c : Option (List X)) (x y : List X) → Grows a b x → Grows b c y → Grows a c (x ++ y)
grows_more None None c x y first second = second
grows_more None (Some ys) c x y first second = cc
grows_more (Some xs) None None x y first second = tt
grows_more (Some xs) None (Some zs) x y first second = cc
grows_more (Some xs) (Some ys) None x y first second = tt
grows_more (Some xs) (Some ys) (Some zs) x y first second = second ∙ ap (λ l. l ++ y) first ∙ append_assoc xs x y

pub shrinks_nothing : {X : Type 0} (told : Option (List X)) → Shrinks told told []
shrinks_nothing None = refl
shrinks_nothing (Some xs) = refl

pub shrinks_more : {X : Type 0} (a b c : Option (List X)) (x y : List X) → Shrinks a b x → Shrinks b c y → Shrinks a c (x ++ y)
shrinks_more None None c x y first second = second
shrinks_more None (Some ys) c x y first second = cc
shrinks_more (Some xs) None None x y first second = tt
shrinks_more (Some xs) None (Some zs) x y first second = cc
shrinks_more (Some xs) (Some ys) None x y first second = tt
shrinks_more (Some xs) (Some ys) (Some zs) x y first second = first ∙ ap (λ l. x ++ l) second ∙ sym (append_assoc x y zs)

module _ (given given_then given_now left left_then left_now : Option (List ℕ)) (read : List ℕ) where
  pub gives_more : (piece : List ℕ) → Gives given given_then left left_then read → Grows given_then given_now piece → Shrinks left_then left_now piece
      → Gives given given_now left left_now (read ++ piece)
  gives_more piece first grows shrinks = record {
    given = grows_more given given_then given_now read piece first.given grows;
    left = shrinks_more left left_then left_now read piece first.left shrinks;
  }

  -- a call that moved nothing
  pub gives_same : (piece : List ℕ) → piece ≡ [] → Gives given given_then left left_then read → Grows given_then given_now piece → Shrinks left_then left_now piece
      → Gives given given_now left left_now read
  gives_same piece none first grows shrinks =
      subst (λ (l : List ℕ). Gives given given_now left left_now l) (ap (λ (l : List ℕ). read ++ l) none ∙ append-nil read) (gives_more piece first grows shrinks)

-- an answer of no bytes where there was room
pub end_told : (old new : Bool) (count : ℕ) (buffer : List ℕ) → count ≡ 0 → 0 < length buffer → new ≡ (old || ((count == 0) && nat_lt 0 (length buffer))) → new ≡ true
end_told old new count buffer none room told =
    let zero_count : (count == 0) ≡ true = ap (λ (n : ℕ). n == 0) none in
    let some : nat_lt 0 (length buffer) ≡ true = grind (arith, nat_tests) in
    told ∙ ap (λ (t : Bool). old || (t && nat_lt 0 (length buffer))) zero_count ∙ ap (λ (t : Bool). old || t) some ∙ or_true old
  where
    or_true : (b : Bool) → (b || true) ≡ true
    or_true true = refl
    or_true false = refl

pub steps_more : (a b c : Stored) (xs ys : List Answer) → Steps a xs b → Steps b ys c → Steps a (xs ++ ys) c
steps_more a b c [] ys first second = subst (λ (s : Stored). Steps s ys c) first second
steps_more a b c (x ∷ xs) ys first second = (first.0, first.1, steps_more first.0 b c xs ys first.2 second)

counted_more : (count : ℕ) (xs ys : List Answer) → counted count (xs ++ ys) ≡ counted (counted count xs) ys
counted_more count [] ys = refl
counted_more count (x ∷ xs) ys = counted_more (min (count + 1) (2 ^ 64 - 1)) xs ys

fold_more : (a : ℕ) (xs ys : List ℕ) → fold max a (xs ++ ys) ≡ fold max (fold max a xs) ys
fold_more a [] ys = refl
fold_more a (x ∷ xs) ys = fold_more (max a x) xs ys

pub told_more : (number : ℕ) (xs ys : List Answer) → last_told number (xs ++ ys) ≡ last_told (last_told number xs) ys
told_more number xs ys =
    ap (fold max number) (flat_map-append (λ (answer : Answer). option_to_list answer.number) xs ys)
    ∙ fold_more number (flat_map (λ (answer : Answer). option_to_list answer.number) xs) (flat_map (λ (answer : Answer). option_to_list answer.number) ys)

pub answered_nothing : (a : Moment) → Answered a a []
answered_nothing a = record { steps = refl; written = grows_nothing a.saying.written; moments = grows_nothing a.moments; replies = refl; last = refl }

pub answered_more : (a b c : Moment) (xs ys : List Answer) → Answered a b xs → Answered b c ys → Answered a c (xs ++ ys)
answered_more a b c xs ys first second = record {
  steps = steps_more a.saying.store b.saying.store c.saying.store xs ys first.steps second.steps;
  written = subst (λ (l : List ℕ). Grows a.saying.written c.saying.written l) (sym (flat_map-append (λ answer. text answer.reply) xs ys))
      (grows_more a.saying.written b.saying.written c.saying.written (texts xs) (texts ys) first.written second.written);
  moments = subst (λ (l : List ℤ). Grows a.moments c.moments l) (sym (map-append (λ (answer : Answer). answer.moment) xs ys))
      (grows_more a.moments b.moments c.moments (moments_of xs) (moments_of ys) first.moments second.moments);
  replies = second.replies ∙ ap (λ n. counted n ys) first.replies ∙ sym (counted_more a.saying.replies xs ys);
  last = second.last ∙ ap (λ n. last_told n ys) first.last ∙ sym (told_more a.saying.last xs ys);
}

pub takes_nothing : (a : Moment) (pending : Pending) (before : List ℕ) → HoldsLast pending before → Takes a a pending before []
takes_nothing a pending before held = record {
  answers = [];
  answered = answered_nothing a;
  holds = subst (λ (bytes : List ℕ). HoldsLast pending bytes) (sym (append-nil before)) held;
  asked = ap ended_requests (append-nil before) ∙ sym (append-nil (ended_requests before));
}

pub takes_more : (a b c : Moment) (m n : Pending) (before p q : List ℕ) → Takes a b m before p → Takes b c n (before ++ p) q → Takes a c n before (p ++ q)
takes_more a b c m n before p q first second = record {
  answers = first.answers ++ second.answers;
  answered = answered_more a b c first.answers second.answers first.answered second.answered;
  holds = subst (λ (bytes : List ℕ). HoldsLast n bytes) (append_assoc before p q) second.holds;
  asked = ap ended_requests (sym (append_assoc before p q)) ∙ second.asked
      ∙ ap (λ (l : List Request). l ++ requests_of second.answers) first.asked
      ∙ append_assoc (ended_requests before) (requests_of first.answers) (requests_of second.answers)
      ∙ ap (λ (l : List Request). ended_requests before ++ l) (sym (map-append (λ (answer : Answer). answer.request) first.answers second.answers));
}

pub takes_then_stops : (a b c : Moment) (m : Pending) (before p q : List ℕ) → Takes a b m before p → Stops b c (before ++ p) q → Stops a c before (p ++ q)
takes_then_stops a b c m before p q first second = record {
  front = p ++ second.front;
  back = second.back;
  whole = ap (λ (l : List ℕ). p ++ l) second.whole ∙ sym (append_assoc p second.front second.back);
  mid = second.mid;
  answers = first.answers ++ second.answers;
  answer = second.answer;
  answered = answered_more a b second.mid first.answers second.answers first.answered second.answered;
  cut_short = second.cut_short;
  asked = ap ended_requests (sym (append_assoc before p second.front)) ∙ second.asked
      ∙ ap (λ (l : List Request). l ++ requests_of (second.answers ++ second.answer ∷ [])) first.asked
      ∙ append_assoc (ended_requests before) (requests_of first.answers) (requests_of (second.answers ++ second.answer ∷ []))
      ∙ ap (λ (l : List Request). ended_requests before ++ l)
      (sym (map-append (λ (answer : Answer). answer.request) first.answers (second.answers ++ second.answer ∷ []))
      ∙ ap requests_of (sym (append_assoc first.answers second.answers (second.answer ∷ []))));
}

pub stops_within : (a c : Moment) (before p q : List ℕ) → Stops a c before p → Stops a c before (p ++ q)
stops_within a c before p q stops = record {
  front = stops.front;
  back = stops.back ++ q;
  whole = ap (λ (l : List ℕ). l ++ q) stops.whole ∙ append_assoc stops.front stops.back q;
  mid = stops.mid;
  answers = stops.answers;
  answer = stops.answer;
  answered = stops.answered;
  cut_short = stops.cut_short;
  asked = stops.asked;
}

-- a piece that stops is a front of the whole
pub stops_in : (a c : Moment) (before p q piece : List ℕ) → piece ≡ p ++ q → Stops a c before p → Stops a c before piece
stops_in a c before p q piece same stops = subst (λ (l : List ℕ). Stops a c before l) (sym same) (stops_within a c before p q stops)

-- bytes without a newline are held
pub takes_rest : (a : Moment) (old new : Pending) (before rest : List ℕ) → Lacks 10 rest
    → ((batch : Option Open) (last : List ℕ) → Pends old batch last → Pends new batch (last ++ rest)) → HoldsLast old before → Takes a a new before rest
takes_rest a old new before rest lacks more held = record {
  answers = [];
  answered = answered_nothing a;
  holds = record {
    lines = held.lines;
    last = held.last ++ rest;
    cut = parts_longer rest before held.lines held.last lacks held.cut;
    pends = subst (λ (batch : Option Open). Pends new batch (held.last ++ rest)) (ap (λ c. c.open_batch) (sym (cut_longer rest before held.lines held.last lacks held.cut)))
        (more (cut_of before).open_batch held.last held.pends);
  };
  asked = ap (λ c. c.requests) (cut_longer rest before held.lines held.last lacks held.cut) ∙ sym (append-nil (ended_requests before));
}

-- a line and its newline, behind which nothing is held
pub takes_line : (a b : Moment) (old new : Pending) (before end : List ℕ) → Lacks 10 end → (held : HoldsLast old before)
    → Replied a b (cut_of before).requests (with_line (cut_of before) (held.last ++ end)).requests
    → Pends new (with_line (cut_of before) (held.last ++ end)).open_batch [] → Takes a b new before (end ++ 10 ∷ [])
takes_line a b old new before end lacks held replied pends =
    let cut = cut_line end before held.lines held.last lacks held.cut in
    record {
      answers = replied.answers;
      answered = replied.answered;
      holds = record {
        lines = held.lines ++ (held.last ++ end) ∷ [];
        last = [];
        cut = parts_line end before held.lines held.last lacks held.cut;
        pends = subst (λ (batch : Option Open). Pends new batch []) (ap (λ c. c.open_batch) (sym cut)) pends;
      };
      asked = ap (λ c. c.requests) cut ∙ replied.asked;
    }

-- a line whose answer is cut short
pub stops_line : (a b : Moment) (old : Pending) (before end : List ℕ) → Lacks 10 end → (held : HoldsLast old before)
    → StopsIn a b (cut_of before).requests (with_line (cut_of before) (held.last ++ end)).requests → Stops a b before (end ++ 10 ∷ [])
stops_line a b old before end lacks held stopped = record {
  front = end ++ 10 ∷ [];
  back = [];
  whole = sym (append-nil (end ++ 10 ∷ []));
  mid = a;
  answers = [];
  answer = stopped.answer;
  answered = answered_nothing a;
  cut_short = stopped.cut_short;
  asked = ap (λ c. c.requests) (cut_line end before held.lines held.last lacks held.cut) ∙ stopped.asked;
}

-- no request has ended
pub replied_nothing : (a : Moment) (before after : List Request) → after ≡ before → Replied a a before after
replied_nothing a before after same = record { answers = []; answered = answered_nothing a; asked = same ∙ sym (append-nil before) }

-- one request has ended, and was answered
pub replied_one : (a b : Moment) (request : Request) (before after : List Request) → after ≡ before ++ request ∷ [] → AnswersOne a b request → Replied a b before after
replied_one a b request before after same one =
    let answer : Answer = record { request = request; moment = one.at; reply = one.answers.reply; number = one.answers.number } in
    record {
      answers = answer ∷ [];
      answered = record {
        steps = (b.saying.store, one.answers.step, refl);
        written = subst (λ (l : List ℕ). Grows a.saying.written b.saying.written l) (sym (append-nil (text one.answers.reply))) one.answers.written;
        moments = one.moments;
        replies = one.answers.replies;
        last = one.answers.last ∙ ap (fold max a.saying.last) (sym (append-nil (option_to_list one.answers.number)));
      };
      asked = same;
    }

pub stops_in_one : (a b : Moment) (request : Request) (before after : List Request) → after ≡ before ++ request ∷ [] → StopsInOne a b request → StopsIn a b before after
stops_in_one a b request before after same one =
    record {
      answer = record { request = request; moment = one.at; reply = one.breaks_off.reply; number = one.breaks_off.number };
      cut_short = record {
        step = one.breaks_off.step;
        part = one.breaks_off.part;
        rest = one.breaks_off.rest;
        whole = one.breaks_off.whole;
        missing = one.breaks_off.missing;
        written = one.breaks_off.written;
        moments = one.moments;
        replies = one.breaks_off.replies;
        last = one.breaks_off.last ∙ ap (fold max a.saying.last) (sym (append-nil (option_to_list one.breaks_off.number)));
      };
      asked = same;
    }

-- a fact that holds anyway holds of an error
pub on_err : {T E : Type 0} (r : Result T E) (P : Type 0) → P → OnErr r P
on_err (Ok x) P h = tt
on_err (Err e) P h = h

pub on_ok_map : {T E : Type 0} (r : Result T E) (P Q : Type 0) → (P → Q) → OnOk r P → OnOk r Q
on_ok_map (Ok x) P Q f h = f h
on_ok_map (Err e) P Q f h = tt

pub on_err_map : {T E : Type 0} (r : Result T E) (P Q : Type 0) → (P → Q) → OnErr r P → OnErr r Q
on_err_map (Ok x) P Q f h = tt
on_err_map (Err e) P Q f h = f h

-- before anything was read
pub held_nothing : (pending : Pending) → Pends pending None [] → HoldsLast pending []
held_nothing pending pends = record { lines = []; last = []; cut = refl; pends = pends }
