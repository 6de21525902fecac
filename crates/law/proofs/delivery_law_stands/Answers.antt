-- The law stands in the lemma files.
use Rattle.law.proofs.Law.{delivery_law}
use Rattle.law.proofs.Plain.{law_in_words}
use Rattle.law.proofs.delivery_law_stands.Goals as goal

pub returns : goal.returns
returns c = record { law = delivery_law; words = law_in_words }
