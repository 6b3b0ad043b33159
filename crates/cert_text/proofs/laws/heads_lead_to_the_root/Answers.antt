use Rattle.cert_text.proofs.HeadSteps.{head_leads, leads_head}
use Rattle.cert_text.proofs.HeadTexts.{head_count}
use Rattle.cert_text.proofs.laws.heads_lead_to_the_root.Goals as goal

pub returns-clause-head : goal.returns-clause-head
returns-clause-head c = λ lines claim q. (leads_head lines claim q, head_leads lines claim q)

pub returns-clause-root : goal.returns-clause-root
returns-clause-root c = head_count
