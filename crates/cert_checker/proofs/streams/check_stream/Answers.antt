use Rattle.std.proofs.Common.{◌≡◌, ℕ, take, refl, subst, arith}
use Rattle.std.specs.Io.KnownBytes.{Consumes}
use Rattle.cert_text.specs.Lines.{cut}
use Rattle.std.proofs.lemmas.List.{length-take}
use Rattle.cert_checker.proofs.Feeding.{fed_all, fed_more, streamed_holds}
use Rattle.retro_ports.proofs.Loops.{read_over}
use Rattle.cert_checker.proofs.streams.check_stream.Goals as goal
use Rattle.retro_ports.specs.declared.piecewise.TheConstants.{MOST_BYTES}

pub returns-in-Err-TooLong-clause-too_long : goal.returns-in-Err-TooLong-clause-too_long
returns-in-Err-TooLong-clause-too_long g c _ =
    read_over _ _ _ c.reads.invariant.so_far.bytes _ MOST_BYTES c.reads.invariant.so_far.read (rw c.in-Err-TooLong.field-0-is at c.in-Err-TooLong.ensures.too_long refl)
    (omega (arith, c.reads.invariant.so_far.stands.fed, c.fed.ensures.value, c.fed.ensures.bound))

pub returns-in-Ok-eq0-clause-holds : goal.returns-in-Ok-eq0-clause-holds
returns-in-Ok-eq0-clause-holds g c =
    let so-far = c.reads.invariant.so_far in
    streamed_holds c.streamed.result _ (cut so-far.bytes) c.streamed.ensures (c.finish.ensures.answer so-far.bytes so-far.stands)

pub returns-in-Ok-eq0-clause-answer : goal.returns-in-Ok-eq0-clause-answer
returns-in-Ok-eq0-clause-answer g c =
    let zero : c.in-Ok-eq0.field-0 ≡ 0 = omega arith in
    fed_all _ _ _ _ _ _ MOST_BYTES c.streamed.result _ c.reads.invariant.so_far (subst (λ (n : ℕ). Consumes (g.S.Source.left c.reads.src) (g.S.Source.left c.read_piece.new.src) (take n c.read_piece.new.buffer)) zero c.in-Ok-eq0.ensures.bytes) (c.in-Ok-eq0.ensures.end zero) c.streamed.ensures c.finish.ensures.answer

pub reads-preserved : goal.reads-preserved
reads-preserved g c = record {
  so_far = fed_more _ _ _ _ _ _ _ _ MOST_BYTES _ c.reads.invariant.so_far c.in-Ok.ensures.bytes c.fed.ensures.bound (omega (arith, length-take c.in-Ok.n c.read_piece.new.buffer, c.in-Ok.ensures.fits, c.fed.ensures.value)) (c.in-Ok.ensures.kept (λ e. cc)) c.feed.ensures.stands;
  chunk = omega (arith, c.read_piece.auto.buffer, c.reads.invariant.chunk);
}
