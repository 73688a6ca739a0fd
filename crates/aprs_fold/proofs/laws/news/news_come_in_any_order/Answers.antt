use Rattle.aprs_fold.proofs.NewRows.{news_come_freely, news_stand}
use Rattle.aprs_fold.proofs.laws.news.news_come_in_any_order.Goals as goal

pub returns-clause-each : goal.returns-clause-each
returns-clause-each c = λ gap pos. news_come_freely gap pos

pub returns-clause-at_once : goal.returns-clause-at_once
returns-clause-at_once c = λ gap pos. news_stand gap pos
