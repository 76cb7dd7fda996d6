-- The key is noted where it is met.
use Rattle.std.proofs.Common.{◌≡◌, ◌∙◌, ◌++◌, ◌∷◌, [], ap, sym, subst, List, ℕ}
use Rattle.point_model.specs.Cursors.{Key}
use Rattle.live_points.specs.Removed.{HaveRoom}
use Rattle.live_points.proofs.TakingLemmas.{none_met, one_met, room_kept, room_more}
use Rattle.live_points.proofs.removal.note_met.Goals as goal

pub returns-then-not-is_met-clause-met : goal.returns-then-not-is_met-clause-met
returns-then-not-is_met-clause-met c =
    none_met c.args.deletion.now c.args.met.now.items (c.args.series.now, c.args.field.now) (sym c.is_met.ensures ∙ c.if-not-is_met.true)

pub returns-clause-met : goal.returns-clause-met
returns-clause-met c =
    let old : List Key = c.args.met.now.items in
    one_met c.args.deletion.now old c.push.new.self.items (c.args.series.now, c.args.field.now) (sym c.is_met.ensures ∙ c.if-not-is_met.false)
    (c.in_ok-push.ensures.items
    ∙ ap (λ (s : List ℕ). old ++ (s, c.in_ok-carry-2.field-0) ∷ []) c.in_ok-carry.ensures
    ∙ ap (λ (f : List ℕ). old ++ (c.args.series.now, f) ∷ []) c.in_ok-carry-2.ensures)

pub returns-clause-room : goal.returns-clause-room
returns-clause-room c = λ room.
    let old : List Key = c.args.met.now.items in
    let pushed : c.push.new.self.items ≡ old ++ (c.args.series.now, c.args.field.now) ∷ [] =
    c.in_ok-push.ensures.items
    ∙ ap (λ (s : List ℕ). old ++ (s, c.in_ok-carry-2.field-0) ∷ []) c.in_ok-carry.ensures
    ∙ ap (λ (f : List ℕ). old ++ (c.args.series.now, f) ∷ []) c.in_ok-carry-2.ensures in
    subst (λ (ks : List Key). HaveRoom c.write_key.new.buffer ks) (sym pushed)
    (room_more c.write_key.new.buffer old (c.args.series.now, c.args.field.now) (room_kept c.args.buffer.now c.write_key.new.buffer old c.write_key.ensures.capacity room) c.in_ok-write_key.ensures.room)
