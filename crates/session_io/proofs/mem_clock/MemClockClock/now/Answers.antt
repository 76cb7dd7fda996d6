-- The moment told is the one at the place of the call.
use Rattle.std.proofs.Common.{◌≡◌, ◌<◌, ◌^◌, ℤ, List, [], ◌∷◌, ap, arith, sym, ◌∙◌, subst}
use Rattle.session_io.specs.Streams.{Grows}
use Rattle.session_io.specs.Moments.{moment_at, moments_told}
use Rattle.session_io.proofs.MomentsLemmas.{told_capped}
use Rattle.session_io.proofs.mem_clock.MemClockClock.now.Goals as goal

pub returns : goal.returns
returns c =
    let fits : c.args.self.now.calls < 2 ^ 64 = omega arith in
    let told : moment_at c.args.self.now.moments.items c.args.self.now.calls ≡ c.moment_at.result =
    sym (c.moment_at.ensures ∙ ap (λ (moments : List ℤ). moment_at moments c.args.self.now.calls) c.deref.ensures.value) in
    record {
      moments = subst (λ (m : ℤ). Grows (moments_told c.args.self.now.moments.items c.args.self.now.calls) (moments_told c.args.self.now.moments.items c.saturating_add-self.result) (m ∷ [])) told
          (told_capped c.args.self.now.moments.items c.args.self.now.calls c.saturating_add-self.result fits c.saturating_add-self.ensures);
    }
