-- The entries of a run make a history, in which each answer has its place.
use Rattle.std.proofs.Common.{◌≡◌, ◌+◌, ℕ, Bool, true, false, nat_lt, nat_le, List, [], ◌∷◌, ◌++◌, length, refl, sym, ap, ◌∙◌, subst, append_assoc, arith, inl, inr, Option, Some, None, ◌⊎◌, length-append, IsPermutation, slice_get, IfSome, if◌then◌else◌}
use Rattle.std.specs.List.{flat_map}
use Rattle.std.proofs.lemmas.List.{append-nil}
use Rattle.std.proofs.Math.Seq.{take-append_seam}
use Rattle.std.proofs.lemmas.List.Sorted.{IsPermutation-refl}
use Rattle.tsdb_types.specs.declared.point.Point.{Point}
use Rattle.point_model.specs.Points.{Points}
use Rattle.point_model.specs.Acceptance.{Conflict, conflict}
use Rattle.point_model.specs.declared.entry.Entry.{Entry}
use Rattle.point_model.specs.Histories.{State, state_after}
use Rattle.point_model.specs.declared.entry.Entry.TheVariants.{Write as Write_entry, Delete as Delete_entry}
use Rattle.point_model.proofs.HistoryLemmas.{state_after-append, state_after-nil}
use Rattle.session_model.specs.declared.statement.Statement.{Statement}
use Rattle.session_model.specs.declared.statement.Statement.TheVariants as statement
use Rattle.session_model.specs.Replies.{Reply, accepted}
use Rattle.session_model.specs.Replies.Reply.{Accepted, Found, Reached, NotReached, NotBuilt, Refused, TypeConflict, HistoryFull, OutOfMemory, DeviceFault, Damaged, CacheFull, SeriesFull}
use Rattle.session_model.specs.Machine.{Answer, Served, Serves, IsOfStore, IsAside, IsOutOfMemory, Step, Run, serve, serve_batch, with_entry}
use Rattle.session_model.specs.Explained.{Transcript, Dialogue, Records, Explained, IsGivenAt, TakePlaces, numbers_from, own_numbers, all_answers}

-- an entry more
state_more : (start : State) (done : List Entry) (entry : Entry) → with_entry (state_after start done) (Some entry) ≡ state_after start (done ++ entry ∷ [])
state_more start done entry = sym (state_after-append start done (entry ∷ []))

entry_at : (done more : List Entry) (entry : Entry) → slice_get (done ++ entry ∷ more) (length done) ≡ Some entry
entry_at [] more entry = refl
entry_at (e ∷ done) more entry = entry_at done more entry

-- a reply without an entry, or an entry with its number
unfoldable pub Cases : ℕ → Reply → Option Entry → Type 0
Cases number reply entry = ((entry ≡ None) × (accepted reply ≡ []))
    ⊎ ((made : Entry) × (entry ≡ Some made) × (accepted reply ≡ (number + 1) ∷ []))

room_cases : (room : Bool) (number : ℕ) (made : Entry) →
    (let served : Served = if room then record { reply = Accepted (number + 1); entry = Some made } else record { reply = HistoryFull; entry = None } in
    Cases number served.reply served.entry)
unfolding Cases
room_cases true number made = inr (made, refl, refl)
room_cases false number made = inl (refl, refl)

batch_cases : (number client : ℕ) (points : List Point) (found : Option Conflict) →
    Cases number (serve_batch number client points found).reply (serve_batch number client points found).entry
unfolding Cases
batch_cases number client points None = room_cases (nat_lt number 9223372036854775807) number (Write_entry client points)
batch_cases number client points (Some found) = inl (refl, refl)

after_cases : (reached : Bool) (number : ℕ) → accepted (if reached then Reached number else NotReached number) ≡ []
after_cases true number = refl
after_cases false number = refl

serve_cases : (points : Points) (number client : ℕ) (asks : Statement) →
    Cases number (serve points number client asks).reply (serve points number client asks).entry
unfolding Cases
serve_cases points number client (statement.Write batch) = batch_cases number client batch (conflict points batch)
serve_cases points number client (statement.Delete deletion) = room_cases (nat_lt number 9223372036854775807) number (Delete_entry client deletion)
serve_cases points number client (statement.Select field measurement) = inl (refl, refl)
serve_cases points number client (statement.After wanted) = inl (refl, after_cases (nat_le wanted number) number)
serve_cases points number client (statement.Refused refusal) = inl (refl, refl)
serve_cases points number client statement.NotBuilt = inl (refl, refl)

pub serves_cases : (tells : Bool) (state : State) (client : ℕ) (answer : Answer) (entry : Option Entry) → Serves tells state client answer entry → Cases state.number answer.reply entry
serves_cases tells state client answer entry serves =
    subst (λ (r : Reply). Cases state.number r entry) (sym serves.reply)
    (subst (λ (e : Option Entry). Cases state.number (serve serves.points state.number client serves.asks).reply e) (sym serves.entry_made)
    (serve_cases serves.points state.number client serves.asks))

-- an answer that is none of the machine's tells no entry
pub none_accepted : (reply : Reply) → IsOfStore reply → accepted reply ≡ []
none_accepted OutOfMemory aside = refl
none_accepted DeviceFault aside = refl
none_accepted (Damaged file offset) aside = refl
none_accepted (CacheFull held) aside = refl
none_accepted (SeriesFull held) aside = refl
none_accepted (Accepted number) aside = absurd aside
none_accepted (Found number tables) aside = absurd aside
none_accepted (Reached number) aside = absurd aside
none_accepted (NotReached number) aside = absurd aside
none_accepted NotBuilt aside = absurd aside
none_accepted (Refused refusal) aside = absurd aside
none_accepted (TypeConflict field held number) aside = absurd aside
none_accepted HistoryFull aside = absurd aside

module _ (HasCause : List Entry → Answer → Type 0) (client : ℕ) (start : State) where
  -- what answers behind a history make of it
  record Places (done : List Entry) (answers : List Answer) (final : State) : Type 0 where
    more : List Entry
    ends : final ≡ state_after start (done ++ more)
    placed : TakePlaces true HasCause start (done ++ more) client (length done) answers
    told : flat_map (λ answer. accepted answer.reply) answers ≡ numbers_from (start.number + length done + 1) more

  -- what the machine gives at the end of a history is given at that place of each longer one
  given_at : (done more : List Entry) (a : Answer) (entry : Option Entry) → Serves true (state_after start done) client a entry
      → IfSome entry (λ made. slice_get (done ++ more) (length done) ≡ Some made) → IsGivenAt true HasCause start (done ++ more) client a (length done)
  given_at done more a entry serves stands = (
    let sum = length-append done more in omega arith,
    inr (entry, subst (λ (h : List Entry). Serves true (state_after start h) client a entry) (sym (take-append_seam done more)) serves, stands),
  )

  aside_at : (done more : List Entry) (a : Answer) → IsAside (HasCause done) (state_after start done) a → IsGivenAt true HasCause start (done ++ more) client a (length done)
  aside_at done more a aside = (
    let sum = length-append done more in omega arith,
    inl (subst (λ (h : List Entry). IsAside (HasCause h) (state_after start h) a) (sym (take-append_seam done more)) aside),
  )

  -- an answer without an entry
  keeps_place : (done : List Entry) (a : Answer) (others : List Answer) (final : State)
      → ((more : List Entry) → IsGivenAt true HasCause start (done ++ more) client a (length done)) → accepted a.reply ≡ []
      → Places done others final → Places done (a ∷ others) final
  keeps_place done a others final given none places = record {
    more = places.more;
    ends = places.ends;
    placed = (
      length done,
      omega arith,
      given places.more,
      subst (λ (n : ℕ). TakePlaces true HasCause start (done ++ places.more) client n others)
          (let e = ap length none in omega arith) places.placed,
    );
    told = ap (λ (l : List ℕ). l ++ flat_map (λ answer. accepted answer.reply) others) none ∙ places.told;
  }

  -- an answer with an entry
  takes_place : (done : List Entry) (entry : Entry) (a : Answer) (others : List Answer) (final : State)
      → ((more : List Entry) → IsGivenAt true HasCause start (done ++ entry ∷ more) client a (length done)) → accepted a.reply ≡ (start.number + length done + 1) ∷ []
      → Places (done ++ entry ∷ []) others final → Places done (a ∷ others) final
  takes_place done entry a others final given one places =
      let longer : length (done ++ entry ∷ []) ≡ length done + 1 = let sum = length-append done (entry ∷ []) in omega arith in
      record {
        more = entry ∷ places.more;
        ends = places.ends ∙ ap (state_after start) (append_assoc done (entry ∷ []) places.more);
        placed = (
          length done,
          omega arith,
          given places.more,
          subst (λ (h : List Entry). TakePlaces true HasCause start h client (length done + length (accepted a.reply)) others) (append_assoc done (entry ∷ []) places.more)
              (subst (λ (n : ℕ). TakePlaces true HasCause start ((done ++ entry ∷ []) ++ places.more) client n others)
              (let e = ap length one in omega arith) places.placed),
        );
        told = ap (λ (l : List ℕ). l ++ flat_map (λ answer. accepted answer.reply) others) one
            ∙ ap (λ (l : List ℕ). (start.number + length done + 1) ∷ l) (places.told
            ∙ ap (λ (n : ℕ). numbers_from n places.more) (omega arith));
      }

module _ (client : ℕ) (start : State) where
  -- the one cause that a run knows
  abbrev Caused : List Entry → Answer → Type 0
  Caused entries = IsOutOfMemory

  -- one step, and then the rest
  step_places : (done : List Entry) (a : Answer) (others : List Answer) (mid final : State)
      → ((d : List Entry) → Run client (state_after start d) others final → Places Caused client start d others final)
      → Step client (state_after start done) a mid → Run client mid others final → Places Caused client start done (a ∷ others) final
  unfolding Cases
  step_places done a others mid final rest (inl (aside, same)) run =
      keeps_place Caused client start done a others final
      (λ more. aside_at Caused client start done more a aside) (none_accepted a.reply aside.aside)
      (rest done (subst (λ (s : State). Run client s others final) same run))
  step_places done a others mid final rest (inr (entry, serves, new)) run =
      elim (serves_cases true (state_after start done) client a entry serves) [
        | inl (none, quiet) ↦
            keeps_place Caused client start done a others final
            (λ more. given_at Caused client start done more a entry serves (subst (λ (e : Option Entry). IfSome e (λ made. slice_get (done ++ more) (length done) ≡ Some made)) (sym none) tt))
            quiet
            (rest done (subst (λ (s : State). Run client s others final) (new ∙ ap (with_entry (state_after start done)) none) run))
        | inr (made, some, told) ↦
            takes_place Caused client start done made a others final
            (λ more. given_at Caused client start done (made ∷ more) a entry serves (subst (λ (e : Option Entry). IfSome e (λ made'. slice_get (done ++ made ∷ more) (length done) ≡ Some made')) (sym some) (entry_at done more made)))
            told
            (rest (done ++ made ∷ []) (subst (λ (s : State). Run client s others final)
            (new ∙ ap (with_entry (state_after start done)) some ∙ state_more start done made) run))
      ]

  run_places : (done : List Entry) (answers : List Answer) (final : State)
      → Run client (state_after start done) answers final → Places Caused client start done answers final
  run_places done [] final run = record {
    more = [];
    ends = run ∙ ap (state_after start) (sym (append-nil done));
    placed = tt;
    told = refl;
  }
  run_places done (a ∷ others) final run =
      step_places done a others run.0 final (λ d rest. run_places d others final rest) run.1 run.2

pub runs_explained : (start final : State) (transcript : Transcript) (dialogue : Dialogue)
    → Records start.number transcript dialogue → Run 0 start (all_answers dialogue) final
    → (history : List Entry) × Explained start history (transcript ∷ []) × (final ≡ state_after start history)
runs_explained start final transcript dialogue records run =
    let places = run_places 0 start [] (all_answers dialogue) final (subst (λ (s : State). Run 0 s (all_answers dialogue) final) (state_after-nil start) run) in
    let opened : start.number ≡ start.number + 0 = omega arith in (
      places.more,
      record {
        dialogues = dialogue ∷ [];
        told = (
          0,
          record { within = omega arith; records = subst (λ (n : ℕ). Records n transcript dialogue) opened records; places = places.placed },
          tt,
        );
        each_once = subst (λ (l : List ℕ). IsPermutation l (numbers_from (start.number + 1) places.more))
            (sym (append-nil (own_numbers dialogue) ∙ places.told ∙ ap (λ (n : ℕ). numbers_from n places.more) (omega arith)))
            (IsPermutation-refl (numbers_from (start.number + 1) places.more));
      },
      places.ends,
    )
