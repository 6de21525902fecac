-- The delivery law, from its two halves.
use Rattle.law.specs.Law.{DeliveryLaw}
use Rattle.ends.proofs.Fit.{list_good}
use Rattle.law.proofs.Fitting.{request_at_fits, answer_at_fits}
use Rattle.law.proofs.Runs.{delivers}
use Rattle.law.proofs.Falls.{timer_clause}

pub delivery_law : DeliveryLaw
delivery_law = record {
  delivers = delivers;
  falls = timer_clause list_good (λ setting l w. answer_at_fits) (λ setting l w. request_at_fits);
}
