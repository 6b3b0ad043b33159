use Rattle.std.proofs.Common.{◌≡◌, ℕ, [], take, refl, ap, arith, rules}
use Rattle.retro_ports.proofs.Loops.{read_over}
use Rattle.dossier_checker.specs.DossierReading.{dossier_answer}
use Rattle.dossier_checker.proofs.DossierFeeding.{all_answered, answered_holds, fed_further, none_answered, nothing_more}
use Rattle.dossier_checker.proofs.streams.check_dossier.Goals as goal
use Rattle.retro_ports.specs.declared.piecewise.TheConstants.{MOST_BYTES}

pub returns-in-Err-TooLong-clause-too_long : goal.returns-in-Err-TooLong-clause-too_long
returns-in-Err-TooLong-clause-too_long g c _ =
    read_over _ _ _ c.reads.invariant.so_far.bytes _ MOST_BYTES c.reads.invariant.so_far.read (rw c.in-Err-TooLong.field-0-is at c.in-Err-TooLong.ensures.too_long refl)
    (omega (arith, c.reads.invariant.so_far.size, c.reads.invariant.so_far.in_range))

pub returns-in-Ok-eq0-clause-answer : goal.returns-in-Ok-eq0-clause-answer
returns-in-Ok-eq0-clause-answer g c =
    let so-far = c.reads.invariant.so_far in
    let none : take c.in-Ok-eq0.field-0 c.read_piece.new.buffer ≡ [] = ap (λ (n : ℕ). take n c.read_piece.new.buffer) c.in-Ok-eq0.field-0-test in
    all_answered (dossier_answer c.finish.result) _ _ so-far.bytes MOST_BYTES (c.finish.ensures so-far.bytes so-far.stands)
    (nothing_more _ _ _ so-far.bytes (take c.in-Ok-eq0.field-0 c.read_piece.new.buffer) so-far.read c.in-Ok-eq0.ensures.bytes none)
    (c.in-Ok-eq0.ensures.end c.in-Ok-eq0.field-0-test) so-far.in_range

pub returns-in-Ok-eq0-clause-too_long : goal.returns-in-Ok-eq0-clause-too_long
returns-in-Ok-eq0-clause-too_long g c e =
    let so-far = c.reads.invariant.so_far in
    absurd (none_answered c.finish.result so-far.bytes (c.finish.ensures so-far.bytes so-far.stands) (ap dossier_answer e))

pub returns-in-Ok-eq0-clause-cause : goal.returns-in-Ok-eq0-clause-cause
returns-in-Ok-eq0-clause-cause g c e =
    let so-far = c.reads.invariant.so_far in
    absurd (none_answered c.finish.result so-far.bytes (c.finish.ensures so-far.bytes so-far.stands) (ap dossier_answer e))

pub returns-in-Ok-eq0-clause-holds : goal.returns-in-Ok-eq0-clause-holds
returns-in-Ok-eq0-clause-holds g c =
    let so-far = c.reads.invariant.so_far in
    answered_holds c.dossiers_prove.ensures c.finish.result so-far.bytes (c.finish.ensures so-far.bytes so-far.stands)

pub reads-preserved : goal.reads-preserved
reads-preserved g c = record {
  so_far = fed_further _ _ _ _ _ _ c.reads.fed c.in-Ok.n MOST_BYTES c.reads.stage c.feed.new.stage c.read_piece.new.buffer _ c.reads.invariant.so_far c.in-Ok.ensures.bytes c.in-Ok.ensures.bound.1
      refl (omega (arith, c.in-Ok.ensures.fits, c.reads.invariant.so_far.size, c.reads.invariant.so_far.in_range)) (c.in-Ok.ensures.kept (search rules)) c.feed.ensures;
  chunk = omega (arith, c.read_piece.auto.buffer, c.reads.invariant.chunk);
}
