use Rattle.jb_cost.proofs.StretchSearch.{still-fit}
use Rattle.jb_cost.proofs.best_start.further.Goals as goal

pub returns-clause-fit : goal.returns-clause-fit
returns-clause-fit c = still-fit _ _ c.over_span.new.shortcuts _ c.over_span.ensures.fit c.over_stretch.ensures.fit

pub returns-clause-best : goal.returns-clause-best
returns-clause-best c ps fit = c.over_stretch.ensures.best ps (c.over_span.ensures.fit.prices ps fit)
