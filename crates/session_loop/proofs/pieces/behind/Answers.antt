-- By the bytes at the beginning.
use Rattle.session_loop.proofs.PieceLemmas.{match_option_map, no_front, some_front}
use Rattle.session_loop.proofs.pieces.behind.Goals as goal

pub returns : goal.returns
returns c = match_option_map c.strip_prefix.result _ _ _ _ (λ differs. no_front c.args.text.now c.args.front.now differs)
    (λ rest parts. some_front c.args.text.now c.args.front.now rest.now parts.0 parts.1) c.strip_prefix.ensures.cases
