mod TestFileLaws
mod StatesLaws
mod EndLaws
