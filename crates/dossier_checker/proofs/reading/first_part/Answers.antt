use Rattle.std.proofs.Common.{List, ℕ, sym, subst₂, arith}
use Rattle.dossier_text.specs.Dossiers.{BeginsWithPart}
use Rattle.dossier_checker.proofs.WholeParts.{enough, no_count, too_few}
use Rattle.dossier_checker.proofs.reading.first_part.Goals as goal

pub returns-in_default-read_count_line : goal.returns-in_default-read_count_line
returns-in_default-read_count_line c = no_count c.args.bytes.now _ c.in-Some.others.now c.in-Some.ensures c.in_default-read_count_line.ensures

pub returns-then-others-count : goal.returns-then-others-count
returns-then-others-count c =
    let counts = c.in-Some-read_count_line.ensures in
    too_few c.args.bytes.now _ c.in-Some.others.now c.in-Some-read_count_line.count c.in-Some.ensures counts.0 counts.2 (omega arith)

pub returns : goal.returns
returns c =
    let counts = c.in-Some-read_count_line.ensures in
    let n = c.in-Some-read_count_line.count in
    subst₂ (λ (part : List ℕ) (rest : List ℕ). BeginsWithPart c.args.bytes.now part rest) (sym c.split_at.ensures.front) (sym c.split_at.ensures.back)
    (enough c.args.bytes.now _ c.in-Some.others.now n c.in-Some.ensures counts.0 counts.1 counts.2 (omega arith))
