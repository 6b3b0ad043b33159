-- Lines without men of whom others say that they never moved are as true as they were.
use Rattle.std.proofs.Common.{List, [], ◌∷◌, map}
use Rattle.std.specs.List.{All}
use Rattle.std.proofs.lemmas.Bool.{and_parts}
use Rattle.std.proofs.lemmas.List.Elements.{All-cons, All-head, All-nil, All-tail}
use Rattle.board_base.specs.declared.moves.Move.{Move}
use Rattle.cage_rules.proofs.Filling.{in-that}
use Rattle.query_base.specs.Asked.{Asked}
use Rattle.query_base.specs.Reach.{Reaches}
use Rattle.ledger_lines.specs.Lines.{LineSays}
use Rattle.ledger_lines.specs.declared.lines.Line.{Line}
use Rattle.ledger_lines.specs.declared.lines.Line.TheVariants.{Unmoved, Lacks, Captures, Pawn, Man, Ahead, Original, Promoted, Among, Fell, Became}
use Rattle.ledger_prose.specs.News.{is_news, news_of}

one-news : (known : List Line) (q : Asked) (g : List Move) (x : Line) → LineSays x q.odds g → LineSays (news_of known x) q.odds g
one-news known q g (Unmoved set) so = λ before begins s member. so before begins s (and_parts _ _ (in-that (is_news known set) s member).1).0
one-news known q g (Lacks side x) so = so
one-news known q g (Captures side x) so = so
one-news known q g (Pawn t homes n exact) so = so
one-news known q g (Man t h) so = so
one-news known q g (Ahead set) so = so
one-news known q g (Original set) so = so
one-news known q g (Promoted t homes) so = so
one-news known q g (Among n set) so = so
one-news known q g (Fell h taker manner within) so = so
one-news known q g (Became h) so = so

abbrev IsTrueLine : Asked → Line → Type 0
IsTrueLine q x = (g : List Move) → Reaches g q → LineSays x q.odds g

pub all-news : (q : Asked) (known lines : List Line) → All (λ x. (g : List Move) → Reaches g q → LineSays x q.odds g) lines → All (λ x. (g : List Move) → Reaches g q → LineSays x q.odds g) (map (news_of known) lines)
all-news q known [] so = All-nil (IsTrueLine q)
all-news q known (x ∷ xs) so =
    All-cons (IsTrueLine q) (news_of known x) (map (news_of known) xs) (λ g reaches. one-news known q g x (All-head (IsTrueLine q) x xs so g reaches)) (all-news q known xs (All-tail (IsTrueLine q) x xs so))
