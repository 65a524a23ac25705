mod CauseLaws
mod LogLaws
mod PhaseLaws
