use Rattle.price_text.proofs.OneText.{prices_law}
use Rattle.price_text.proofs.laws.one_text_of_prices.Goals as goal

pub returns : goal.returns
returns c = prices_law
