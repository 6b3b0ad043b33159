use Rattle.std.proofs.Common.{◌≡◌, ◌<◌, ◌≤◌, ◌+◌, ℕ, List, [], ◌∷◌, ◌++◌, take, drop, length, ap, sym, subst, arith, rules, true}
use Rattle.std.proofs.lemmas.Bool.{and_parts}
use Rattle.std.proofs.lemmas.List.{length-take-le}
use Rattle.board_base.specs.declared.moves.Move.{Move}
use Rattle.play_rules.specs.States.{Position, legal_at}
use Rattle.san_text.specs.Fits.{IsOnly, IsFoundFault, fits}
use Rattle.san_text.specs.Games.{LeadTo, FirstFault}
use Rattle.san_text.specs.Plies.{IsPlyFault, at_ply}
use Rattle.san_text.specs.declared.grammar.San.{San}
use Rattle.san_text.specs.declared.reading.SanFault.{SanFault}
use Rattle.san_text.specs.declared.reading.SanFault.TheVariants.{BadText, NoMove, Many}
use Rattle.san_text.specs.declared.games.SanGameFault.{SanGameFault}
use Rattle.general_lemmas.proofs.Splits.{up_to, split_at}
use Rattle.san_text.proofs.Leading.{lead_more}
use Rattle.san_text.proofs.playing.played.Goals as goal

only_legal : (one : San) (p : Position) (m : Move) → IsOnly (fits one p) m → legal_at p m ≡ true
unfolding fits
only_legal one p m h = (and_parts _ _ h.passes).0

first_fault : (cause : SanFault) (p : Position) (said : List San) (i : ℕ) (one : San) (moves : List Move) (q : Position) → i < length said → said ≡ take i said ++ one ∷ drop (i + 1) said → LeadTo p (take i said) moves q → IsFoundFault cause (fits one q) → FirstFault cause p said (i + 1)
first_fault cause p said i one moves q below parts leads found = record {
  before = take i said;
  one = one;
  after = drop (i + 1) said;
  split = parts;
  number = let short : i ≤ length said = omega arith in ap (λ (n : ℕ). n + 1) (length-take-le i said short);
  moves = moves;
  state = q;
  leads = leads;
  fault = found;
}

ply_fault : (cause : SanFault) (p : Position) (said : List San) (i : ℕ) (one : San) (moves : List Move) (q : Position) → i < length said → said ≡ take i said ++ one ∷ drop (i + 1) said → LeadTo p (take i said) moves q → IsFoundFault cause (fits one q) → IsPlyFault (at_ply cause (i + 1)) p said
ply_fault BadText p said i one moves q below parts leads found = absurd found
ply_fault NoMove p said i one moves q below parts leads found = first_fault NoMove p said i one moves q below parts leads found
ply_fault Many p said i one moves q below parts leads found = first_fault Many p said i one moves q below parts leads found

pub after-state-requires : goal.after-state-requires
after-state-requires c = only_legal c.index-said-i.result c.loop-i.state c.in-Ok.m c.in-Ok.ensures

pub returns-in-Err : goal.returns-in-Err
returns-in-Err c =
    let said = c.args.said.now in
    subst (λ (e : SanGameFault). IsPlyFault e c.args.start said) (sym c.at_ply.ensures)
    (ply_fault c.in-Err.cause c.args.start said c.loop-i.i c.index-said-i.result c.loop-i.moves.items c.loop-i.state c.loop-i-test.true (split_at said c.loop-i.i c.index-said-i.result c.loop-i-test.true c.index-said-i.is) c.loop-i.invariant c.in-Err.ensures)

pub loop-i-preserved : goal.loop-i-preserved
loop-i-preserved c =
    let said = c.args.said.now in
    let more : c.push.new.self.items ≡ c.loop-i.moves.items ++ c.in-Ok.m ∷ [] = search rules in
    subst (λ (l : List San). LeadTo c.args.start l c.push.new.self.items c.after-state.result) (sym (up_to said c.loop-i.i c.index-said-i.result c.loop-i-test.true c.index-said-i.is))
    (subst (λ (l : List Move). LeadTo c.args.start (take c.loop-i.i said ++ c.index-said-i.result ∷ []) l c.after-state.result) (sym more)
    (subst (LeadTo c.args.start (take c.loop-i.i said ++ c.index-said-i.result ∷ []) (c.loop-i.moves.items ++ c.in-Ok.m ∷ [])) (sym c.after-state.ensures)
    (lead_more c.args.start (take c.loop-i.i said) c.loop-i.moves.items c.loop-i.state c.index-said-i.result c.in-Ok.m c.loop-i.invariant c.in-Ok.ensures)))
