-- One client more has its pass.
use Rattle.std.proofs.Common.{◌≡◌, ℕ, ◌-◌, List, length, slice_index_or, slice_set, refl, ap, ◌∙◌, arith}
use Rattle.history_turn.specs.Passes.{viewing, fresh}
use Rattle.history_turn.specs.Views.{cut, part_of}
use Rattle.engine_clients.specs.Seats.{Served, Seat, seated_with}
use Rattle.engine_clients.proofs.SeatLemmas.{changed, changed_next, changed_more, changed_all, cut_once_more, part_once_more}
use Rattle.engine_clients.proofs.seats.seat_all.Goals as goal

pub loop-k-init : goal.loop-k-init
loop-k-init g c =
    let first : Seat g.row.D.Denot = c.args.first.now in
    let same : first.view.parts ≡ first.view.parts - 0 = omega arith in
    (ap (λ (n : ℕ). viewing first (record first.view { parts = n })) same, refl, omega arith)

pub split-pass-requires-clause-turn : goal.split-pass-requires-clause-turn
split-pass-requires-clause-turn g c = ap (λ (s : Seat g.row.D.Denot). s.turn) c.loop-k.invariant.0 ∙ c.requires.turn

pub split-pass-requires-clause-without_turn : goal.split-pass-requires-clause-without_turn
split-pass-requires-clause-without_turn g c = ap (λ (s : Seat g.row.D.Denot). s.view.has_turn) c.loop-k.invariant.0 ∙ c.requires.without_turn

pub split-pass-requires-clause-parts : goal.split-pass-requires-clause-parts
split-pass-requires-clause-parts g c =
    let left = ap (λ (s : Seat g.row.D.Denot). s.view.parts) c.loop-k.invariant.0 in
    (omega arith, omega (arith, left, c.requires.parts, c.loop-k-test.true))

pub seat-requires-clause-empty : goal.seat-requires-clause-empty
seat-requires-clause-empty g c = λ κs live.
    let olds = c.args.clients.now in
    let k = c.loop-k.k in
    let first : Seat g.row.D.Denot = c.args.first.now in
    let d = c.index-clients-k.result in
    ap (λ (l : List (Served g.row.D.Denot g.row.S.Denot g.row.K.Denot g.row.C.Denot)). (slice_index_or l k d).pass) c.loop-k.invariant.1
    ∙ ap (λ (s : Served g.row.D.Denot g.row.S.Denot g.row.K.Denot g.row.C.Denot). s.pass) (changed_next (seated_with (fresh first (part_of first.view 1))) k olds d)
    ∙ c.requires.empty k d c.loop-k-test.true

pub loop-k-preserved : goal.loop-k-preserved
loop-k-preserved g c =
    let olds = c.args.clients.now in
    let clients = c.loop-k.clients in
    let k = c.loop-k.k in
    let d = c.index-clients-k.result in
    let first : Seat g.row.D.Denot = c.args.first.now in
    let seat : Seat g.row.D.Denot = fresh first (part_of first.view 1) in
    let same = c.split-pass.ensures.new ∙ part_once_more first c.loop-k.first k c.loop-k.invariant.0 in
    let was = ap (λ (l : List (Served g.row.D.Denot g.row.S.Denot g.row.K.Denot g.row.C.Denot)). slice_index_or l k d) c.loop-k.invariant.1 ∙ changed_next (seated_with seat) k olds d in
    let one = c.seat.ensures ∙ ap (λ (p : Seat g.row.D.Denot). seated_with p (slice_index_or clients k d)) same ∙ ap (seated_with seat) was in (
      cut_once_more first c.loop-k.first c.split-pass.new.pass k c.loop-k.invariant.0 c.split-pass.ensures.old,
      ap (λ (s : Served g.row.D.Denot g.row.S.Denot g.row.K.Denot g.row.C.Denot). slice_set clients k s) one
          ∙ ap (λ (l : List (Served g.row.D.Denot g.row.S.Denot g.row.K.Denot g.row.C.Denot)). slice_set l k (seated_with seat (slice_index_or olds k d))) c.loop-k.invariant.1
          ∙ changed_more (seated_with seat) k olds d c.loop-k-test.true,
      omega (arith, c.loop-k-test.true),
    )

pub returns-clause-first : goal.returns-clause-first
returns-clause-first g c =
    let first : Seat g.row.D.Denot = c.args.first.now in
    let all : c.loop-k.k ≡ length c.args.clients.now = omega (arith, c.loop-k.invariant.2, c.loop-k-test.false) in
    c.loop-k.invariant.0 ∙ ap (λ (n : ℕ). viewing first (cut first.view n)) all

pub returns-clause-clients : goal.returns-clause-clients
returns-clause-clients g c =
    let first : Seat g.row.D.Denot = c.args.first.now in
    let seat : Seat g.row.D.Denot = fresh first (part_of first.view 1) in
    let all : c.loop-k.k ≡ length c.args.clients.now = omega (arith, c.loop-k.invariant.2, c.loop-k-test.false) in
    c.loop-k.invariant.1 ∙ ap (λ (n : ℕ). changed (seated_with seat) n c.args.clients.now) all ∙ changed_all (seated_with seat) c.args.clients.now
