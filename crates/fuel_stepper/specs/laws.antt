-- Lemmas that prove the laws which `Engine` asks: a law's proof cites files of specs/ alone.
pub mod StandingLaws
