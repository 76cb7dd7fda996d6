use Rattle.std.proofs.Common.{◌<◌, ◌^◌, List, refl, ◌∙◌, subst, rules}
use Rattle.std.proofs.lemmas.Bool.{false≢true}
use Rattle.point_model.specs.Rows.{Row}
use Rattle.tsm_file.specs.ReadBlocks.{BeginsAs, IsWrong, Spans}
use Rattle.tsm_file.proofs.BlockLemmas.{IsHeld, bad_block_alone, bad_kind_alone, block_is_wrong, block_of, cut_is_none, cut_is_wrong, is_block, not_agreed, same_told, sum_of_none}
use Rattle.tsm_file.proofs.block.points_of.Goals as goal

pub returns-in_default-clause-damaged : goal.returns-in_default-clause-damaged
returns-in_default-clause-damaged c = λ damage told.
    subst (IsWrong c.args.file c.args.kind c.args.entry.now c.args.held.now) (same_told c.damage.result _ damage c.damage.ensures told)
    (cut_is_wrong c.args.file c.args.kind c.args.entry.now c.args.held.now c.in_default.ensures.cut)

pub returns-in_default-clause-sound : goal.returns-in_default-clause-sound
returns-in_default-clause-sound c = λ points block. absurd (cut_is_none c.args.kind c.args.entry.now c.args.held.now points c.in_default.ensures.cut block)

pub returns-then-stored-computed-clause-sound : goal.returns-then-stored-computed-clause-sound
returns-then-stored-computed-clause-sound c = λ points block.
    let stored : c.in-Some.stored < 2 ^ 32 = search rules in
    let computed : c.crc32-computed.result < 2 ^ 32 = search rules in
    let held : IsHeld c.args.held.now c.in-Some.stored c.in-Some.block.now = record { fits = stored; parts = c.in-Some.ensures.found } in
    absurd (sum_of_none c.args.kind c.args.entry.now c.args.held.now c.in-Some.block.now c.in-Some.stored c.crc32-computed.result points held computed c.crc32-computed.ensures c.if-stored-computed.true block)

pub returns-in-Err-BadKind-clause-sound : goal.returns-in-Err-BadKind-clause-sound
returns-in-Err-BadKind-clause-sound c = λ points block.
    let stored : c.in-Some.stored < 2 ^ 32 = search rules in
    let held : IsHeld c.args.held.now c.in-Some.stored c.in-Some.block.now = record { fits = stored; parts = c.in-Some.ensures.found } in
    absurd (bad_kind_alone c.in-Err-BadKind.field-0 c.in-Err-BadKind.field-0-0 c.in-Err-BadKind.field-0-is (c.in-Err-BadKind.ensures.only points (is_block c.args.kind c.args.entry.now c.args.held.now c.in-Some.block.now c.in-Some.stored points held block) block.in_range))

pub returns-in-Err-BadKind-clause-damaged : goal.returns-in-Err-BadKind-clause-damaged
returns-in-Err-BadKind-clause-damaged c = λ damage told.
    let stored : c.in-Some.stored < 2 ^ 32 = search rules in
    let held : IsHeld c.args.held.now c.in-Some.stored c.in-Some.block.now = record { fits = stored; parts = c.in-Some.ensures.found } in
    subst (IsWrong c.args.file c.args.kind c.args.entry.now c.args.held.now) (same_told c.damage-in-Err-BadKind.result _ damage c.damage-in-Err-BadKind.ensures told)
    (block_is_wrong c.args.file c.args.kind c.args.entry.now c.args.held.now c.in-Some.block.now c.in-Some.stored held (c.if-stored-computed.false ∙ c.crc32-computed.ensures)
    (λ points block. bad_kind_alone c.in-Err-BadKind.field-0 c.in-Err-BadKind.field-0-0 c.in-Err-BadKind.field-0-is (c.in-Err-BadKind.ensures.only points (is_block c.args.kind c.args.entry.now c.args.held.now c.in-Some.block.now c.in-Some.stored points held block) block.in_range)))

pub returns-in-Err-BadBlock-clause-sound : goal.returns-in-Err-BadBlock-clause-sound
returns-in-Err-BadBlock-clause-sound c = λ points block.
    let stored : c.in-Some.stored < 2 ^ 32 = search rules in
    let held : IsHeld c.args.held.now c.in-Some.stored c.in-Some.block.now = record { fits = stored; parts = c.in-Some.ensures.found } in
    absurd (bad_block_alone c.in-Err-BadBlock.field-0 c.in-Err-BadBlock.field-0-is (c.in-Err-BadBlock.ensures.only points (is_block c.args.kind c.args.entry.now c.args.held.now c.in-Some.block.now c.in-Some.stored points held block) block.in_range))

pub returns-in-Err-BadBlock-clause-damaged : goal.returns-in-Err-BadBlock-clause-damaged
returns-in-Err-BadBlock-clause-damaged c = λ damage told.
    let stored : c.in-Some.stored < 2 ^ 32 = search rules in
    let held : IsHeld c.args.held.now c.in-Some.stored c.in-Some.block.now = record { fits = stored; parts = c.in-Some.ensures.found } in
    subst (IsWrong c.args.file c.args.kind c.args.entry.now c.args.held.now) (same_told c.damage-in-Err-BadBlock.result _ damage c.damage-in-Err-BadBlock.ensures told)
    (block_is_wrong c.args.file c.args.kind c.args.entry.now c.args.held.now c.in-Some.block.now c.in-Some.stored held (c.if-stored-computed.false ∙ c.crc32-computed.ensures)
    (λ points block. bad_block_alone c.in-Err-BadBlock.field-0 c.in-Err-BadBlock.field-0-is (c.in-Err-BadBlock.ensures.only points (is_block c.args.kind c.args.entry.now c.args.held.now c.in-Some.block.now c.in-Some.stored points held block) block.in_range)))

pub returns-then-not-agrees-clause-damaged : goal.returns-then-not-agrees-clause-damaged
returns-then-not-agrees-clause-damaged c = λ damage told.
    let stored : c.in-Some.stored < 2 ^ 32 = search rules in
    let held : IsHeld c.args.held.now c.in-Some.stored c.in-Some.block.now = record { fits = stored; parts = c.in-Some.ensures.found } in
    let differs : BeginsAs c.args.kind c.deref.result.now × Spans c.args.entry.now c.deref.result.now → ⊥ = λ both. false≢true (c.if-not-agrees.ensures.1 both) in
    subst (IsWrong c.args.file c.args.kind c.args.entry.now c.args.held.now) (same_told c.damage-then-not-agrees.result _ damage c.damage-then-not-agrees.ensures told)
    (block_is_wrong c.args.file c.args.kind c.args.entry.now c.args.held.now c.in-Some.block.now c.in-Some.stored held (c.if-stored-computed.false ∙ c.crc32-computed.ensures)
    (λ points block. not_agreed c.args.kind c.args.entry.now c.args.held.now c.deref.result.now points differs
    (c.deref.ensures.value ∙ c.in-Ok.ensures.only points (is_block c.args.kind c.args.entry.now c.args.held.now c.in-Some.block.now c.in-Some.stored points held block) block.in_range) block))

pub returns-then-not-agrees-clause-sound : goal.returns-then-not-agrees-clause-sound
returns-then-not-agrees-clause-sound c = λ points block.
    let stored : c.in-Some.stored < 2 ^ 32 = search rules in
    let held : IsHeld c.args.held.now c.in-Some.stored c.in-Some.block.now = record { fits = stored; parts = c.in-Some.ensures.found } in
    let differs : BeginsAs c.args.kind c.deref.result.now × Spans c.args.entry.now c.deref.result.now → ⊥ = λ both. false≢true (c.if-not-agrees.ensures.1 both) in
    absurd (not_agreed c.args.kind c.args.entry.now c.args.held.now c.deref.result.now points differs
    (c.deref.ensures.value ∙ c.in-Ok.ensures.only points (is_block c.args.kind c.args.entry.now c.args.held.now c.in-Some.block.now c.in-Some.stored points held block) block.in_range) block)

pub returns-clause-found : goal.returns-clause-found
returns-clause-found c =
    let stored : c.in-Some.stored < 2 ^ 32 = search rules in
    let held : IsHeld c.args.held.now c.in-Some.stored c.in-Some.block.now = record { fits = stored; parts = c.in-Some.ensures.found } in
    let both : BeginsAs c.args.kind c.deref.result.now × Spans c.args.entry.now c.deref.result.now = c.if-not-agrees.ensures.0 refl in
    let agrees = subst (λ (ps : List Row). BeginsAs c.args.kind ps × Spans c.args.entry.now ps) c.deref.ensures.value both in
    block_of c.args.kind c.args.entry.now c.args.held.now c.in-Some.block.now c.in-Some.stored c.in-Ok.points.items held (c.if-stored-computed.false ∙ c.crc32-computed.ensures)
    c.in-Ok.ensures.found c.in-Ok.ensures.range agrees.0 agrees.1

pub returns-clause-sound : goal.returns-clause-sound
returns-clause-sound c = λ points block.
    let stored : c.in-Some.stored < 2 ^ 32 = search rules in
    let held : IsHeld c.args.held.now c.in-Some.stored c.in-Some.block.now = record { fits = stored; parts = c.in-Some.ensures.found } in
    c.in-Ok.ensures.only points (is_block c.args.kind c.args.entry.now c.args.held.now c.in-Some.block.now c.in-Some.stored points held block) block.in_range
