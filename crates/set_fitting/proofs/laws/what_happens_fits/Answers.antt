use Rattle.set_fitting.proofs.Fitting.{client_fits, lives_fit}
use Rattle.set_fitting.proofs.laws.what_happens_fits.Goals as goal

pub returns-clause-lives : goal.returns-clause-lives
returns-clause-lives c = λ mode servers items queue oldest lines few some long fits place within.
    lives_fit (record {
      keeps = c.what_is_put_keeps_the_limits.ensures.step;
      lawful = c.orders_are_lawful.ensures.step;
      opens = c.orders_are_lawful.ensures.opens;
      message = c.replies_that_keep_fit.ensures.message;
      opening = c.replies_that_keep_fit.ensures.opening;
    }) c.what_is_put_keeps_the_limits.ensures.first mode servers items queue oldest lines few some long fits place within

pub returns-clause-client : goal.returns-clause-client
returns-clause-client c = λ mode servers items queue oldest lines few some long fits.
    client_fits (record {
      keeps = c.what_is_put_keeps_the_limits.ensures.step;
      lawful = c.orders_are_lawful.ensures.step;
      opens = c.orders_are_lawful.ensures.opens;
      message = c.replies_that_keep_fit.ensures.message;
      opening = c.replies_that_keep_fit.ensures.opening;
    }) c.what_is_put_keeps_the_limits.ensures.first mode servers items queue oldest lines few some long fits
