use Rattle.std.proofs.Common.{◌≡◌, ◌≤◌, length, rules, arith, subst}
use Rattle.san_text.specs.Candidates.{candidate}
use Rattle.san_text.specs.Fits.{fits}
use Rattle.san_text.proofs.Search.{FoundBelow, only_found, none_found}
use Rattle.san_text.proofs.Candidates.{are_candidates}
use Rattle.san_text.proofs.reading.only.Goals as goal

pub returns-in-Some : goal.returns-in-Some
returns-in-Some c =
    let p = c.args.state.now in
    let said = c.args.said.now in
    let size : length p.board ≡ 64 = search rules in
    let past : 64 ≤ c.loop-i.i = omega (arith, c.loop-i-test.false) in
    only_found (fits said p) (candidate p.turn said) c.loop-i.i c.in-Some.m past (are_candidates p said size) (subst (FoundBelow (fits said p) (candidate p.turn said) c.loop-i.i) (c.in-Some.is) c.loop-i.invariant)

pub returns-in-None : goal.returns-in-None
returns-in-None c =
    let p = c.args.state.now in
    let said = c.args.said.now in
    let size : length p.board ≡ 64 = search rules in
    let past : 64 ≤ c.loop-i.i = omega (arith, c.loop-i-test.false) in
    none_found (fits said p) (candidate p.turn said) c.loop-i.i past (are_candidates p said size) (subst (FoundBelow (fits said p) (candidate p.turn said) c.loop-i.i) (c.in-None.is) c.loop-i.invariant)
