use Rattle.reading_laws.proofs.WrongRows.{wrong-leads-nowhere, wrong-row-leads-nowhere}
use Rattle.reading_laws.proofs.rows.wrong_rows_lead_nowhere.Goals as goal

pub returns-clause-keywords : goal.returns-clause-keywords
returns-clause-keywords c = wrong-leads-nowhere

pub returns-clause-sites : goal.returns-clause-sites
returns-clause-sites c = wrong-row-leads-nowhere
