use Rattle.std.proofs.Common.{◌≡◌, ◌++◌, length, take, drop, sym, ◌∙◌, ap, arith}
use Rattle.std.proofs.lemmas.List.{length-take-le}
use Rattle.std.proofs.lemmas.Result.{IfOk-weaker}
use Rattle.word_codec.specs.Uvarint.{uvarint}
use Rattle.word_codec.proofs.UvarintLemmas.{front_number, whole_number, whole_found}
use Rattle.word_codec.proofs.uvarint.read_uvarint.Goals as goal

pub returns-in-Some-clause-found : goal.returns-in-Some-clause-found
returns-in-Some-clause-found c =
    let bytes = c.args.bytes.now in
    let ten : c.in-Some.ten.now ≡ take 10 bytes = c.in-Some.ensures.cases.0 in
    IfOk-weaker c.read_front.result _ _
    (λ found is. (whole_found bytes found.0 found.1 (sym ten ∙ is.0 ∙ ap (λ ns. uvarint found.0 ++ drop found.1 ns) ten) is.1, is.1))
    c.read_front.ensures.found

pub returns-in-Some-clause-only : goal.returns-in-Some-clause-only
returns-in-Some-clause-only c = λ number rest small is.
    c.read_front.ensures.only number (drop (length (uvarint number)) (take 10 c.args.bytes.now)) small (c.in-Some.ensures.cases.0 ∙ front_number c.args.bytes.now number rest small is)

pub returns-in-Some-clause-long : goal.returns-in-Some-clause-long
returns-in-Some-clause-long c =
    let bytes = c.args.bytes.now in
    let ten : c.in-Some.ten.now ≡ take 10 bytes = c.in-Some.ensures.cases.0 in
    let size = c.in-Some.ensures.cases.2 in (
      λ is. record {
        not_short = λ short. omega (arith, short.room, size);
        no_number = λ number rest small e. (c.read_front.ensures.long.0 is).no_number number (drop (length (uvarint number)) (take 10 bytes)) small (ten ∙ front_number bytes number rest small e);
      },
      λ long. c.read_front.ensures.long.1 (record {
        not_short = λ short. omega (arith, short.room, ap length ten, length-take-le 10 bytes (omega (arith, size)));
        no_number = λ number rest small e. long.no_number number (rest ++ drop 10 bytes) small (whole_number bytes rest number (sym ten ∙ e));
      }),
    )
