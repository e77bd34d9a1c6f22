mod Grammars
mod HexSteps
mod ImageSteps
mod LineSteps
mod SplitSteps
