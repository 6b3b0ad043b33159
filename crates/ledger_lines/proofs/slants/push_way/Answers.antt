use Rattle.std.proofs.Common.{◌≡◌, ◌++◌, ◌∙◌, ℕ, Bool, List, [], ap, cond, arith}
use Rattle.prose_words.proofs.Squares.{flat_more, flat_whole}
use Rattle.ledger_lines.specs.Slants.{is_slant_from, slant_words, way_words}
use Rattle.ledger_lines.proofs.slants.push_way.Goals as goal

-- the squares of one way
one-way : (before : List ℕ) (homes : List Bool) (s n h : ℕ) (old new : List ℕ) → h ≡ n → new ≡ old ++ cond (is_slant_from homes s h) (slant_words before h s) [] → new ≡ old ++ cond (is_slant_from homes s n) (slant_words before n s) []
one-way before homes s n h old new at_n e = e ∙ ap (λ (m : ℕ). old ++ cond (is_slant_from homes s m) (slant_words before m s) []) at_n

pub loop-i-preserved : goal.loop-i-preserved
loop-i-preserved c =
    one-way c.args.before.now c.args.homes c.args.s c.loop-i.i c.known.result _ _ c.known.ensures c.in_ok-push_slant_from.ensures
    ∙ flat_more (λ (h : ℕ). cond (is_slant_from c.args.homes c.args.s h) (slant_words c.args.before.now h c.args.s) []) _ _ _ c.loop-i.invariant

pub returns : goal.returns
unfolding way_words
returns c = flat_whole (λ (h : ℕ). cond (is_slant_from c.args.homes c.args.s h) (slant_words c.args.before.now h c.args.s) []) _ _ _ 64 c.loop-i.invariant (omega arith)
