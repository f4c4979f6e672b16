use Rattle.std.proofs.Common.{◌≡◌, Some, sym, subst, ◌∙◌, arith}
use Rattle.proxy_generations.specs.Phase.{IsTask}
use Rattle.proxy_server.specs.Words.{FitsWord, IsWord}
use Rattle.proxy_server.proofs.WordLemmas.{nobody_shows, same_number, same_task, told_number, one_phase, has_code}
use Rattle.proxy_server.proofs.words.anew.Goals as goal

pub returns-in_default : goal.returns-in_default
returns-in_default c = λ s es st. record {
  drains = λ n before task word is. absurd (let told = c.unpack.ensures.told n before word in let none = c.in_default.is in cc);
  shows = λ n task word. absurd (nobody_shows n task word);
}

pub returns-in-Some-task : goal.returns-in-Some-task
returns-in-Some-task c = λ s es st.
    let number = c.in-Some.shown.number in
    let task = c.in-Some-task.task in
    let made = c.pack.result in
    let is : IsTask (Some task) es number = subst (λ o. IsTask o es number) c.in-Some-task.is (c.task.ensures s es st) in
    let word = c.in-Some.ensures.some in
    let fits : FitsWord number task = (has_code c.draining_are_older.ensures es st.may number task is.0 is.1, omega (arith, c.ranges.word.fits, word.1)) in
    let shown : IsWord made number task = c.pack.ensures.shown fits in
    record {
      drains = λ n before t old now.
          let same : number ≡ n = told_number c.in-Some.shown n before (sym c.in-Some.is ∙ c.unpack.ensures.told n before old) in
          let mine : IsTask (Some task) es n = subst (λ m. IsTask (Some task) es m) same is in
          subst (λ m. IsWord made m t) same (subst (λ u. IsWord made number u) (one_phase es n task t mine.1 now.1) shown);
      shows = λ n t new.
          subst (λ m. IsTask (Some t) es m) (same_number made number n task t shown new)
          (subst (λ u. IsTask (Some u) es number) (same_task made number n task t shown new) is);
    }
